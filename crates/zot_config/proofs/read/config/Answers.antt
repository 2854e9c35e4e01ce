use Rattle.zot_config.specs.Object.{seen}
use Rattle.zot_config.proofs.CountLemmas.{cluster_counted}
use Rattle.zot_config.proofs.read.config.Goals as goal

pub new-requires : goal.new-requires
new-requires c = cluster_counted (seen c.in_ok-in_cluster.in_cluster) c.in_ok-cluster.cluster c.in_ok-cluster.ensures

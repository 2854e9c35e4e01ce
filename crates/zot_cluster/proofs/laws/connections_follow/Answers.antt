use Rattle.zot_cluster.proofs.ViewLemmas.{follows}
use Rattle.zot_cluster.proofs.laws.connections_follow.Goals as goal

pub returns : goal.returns
returns c = follows

use Rattle.zot_table.proofs.OpeningLemmas.{kept_opened}
use Rattle.zot_table.proofs.repository.Repository.open.Goals as goal

pub invariant_of-result : goal.invariant_of-result
invariant_of-result c = kept_opened c.args.index c.requires c.new.result c.in_ok-manifests.manifests c.new-2.result.index.sets c.new.ensures c.in_ok-manifests.ensures

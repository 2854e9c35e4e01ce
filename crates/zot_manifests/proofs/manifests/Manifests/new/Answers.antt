use Rattle.zot_manifests.proofs.IndexLemmas.{lists_none}
use Rattle.zot_manifests.proofs.TableLemmas.{referred_by}
use Rattle.zot_manifests.proofs.manifests.Manifests.new.Goals as goal

pub invariant_of-result : goal.invariant_of-result
invariant_of-result c = λ _. lists_none referred_by c.new.result c.new-3.result.sets c.new.ensures

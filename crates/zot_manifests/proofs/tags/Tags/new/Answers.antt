use Rattle.zot_manifests.proofs.IndexLemmas.{lists_none}
use Rattle.zot_manifests.proofs.TagIndexLemmas.{names}
use Rattle.zot_manifests.proofs.tags.Tags.new.Goals as goal

pub invariant_of-result : goal.invariant_of-result
invariant_of-result c = λ _. lists_none names c.new.result c.new-2.result.sets c.new.ensures

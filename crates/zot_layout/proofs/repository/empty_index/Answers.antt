use Rattle.std.proofs.Common.{◌∙◌, [], sym, subst}
use Rattle.zot_layout.specs.State.{IsIndex}
use Rattle.zot_layout.proofs.OrderLemmas.{empty_ordered}
use Rattle.zot_layout.proofs.repository.empty_index.Goals as goal

pub returns-clause-index : goal.returns-clause-index
returns-clause-index c =
    subst (λ manifests. IsIndex (record { manifests = manifests; tags = c.new-4.result })) (sym (c.new-2.ensures ∙ c.new.ensures.items))
    (subst (λ tags. IsIndex (record { manifests = []; tags = tags })) (sym (c.new-4.ensures ∙ c.new-3.ensures.items)) empty_ordered)

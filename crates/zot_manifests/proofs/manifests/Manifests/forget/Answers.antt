use Rattle.std.proofs.Common.{sym, ap, subst, ◌∙◌}
use Rattle.zot_digest.specs.ByteMap.{ByteMap}
use Rattle.zot_manifests.proofs.TableLemmas.{lists_gone, removed_absent}
use Rattle.zot_manifests.specs.Index.{ListsAll}
use Rattle.zot_manifests.specs.declared.kept.Kept.{Kept}
use Rattle.zot_manifests.proofs.manifests.Manifests.forget.Goals as goal

pub invariant_of-self : goal.invariant_of-self
invariant_of-self c = λ on.
    subst (λ (m : ByteMap Kept). ListsAll m c.self.inside.index.sets) (sym (c.remove.ensures.removed ∙ removed_absent c.self.inside.manifests c.args.digest.now (sym c.in_default.ensures.was))) (c.self.invariant on)

pub returns-in_default-clause-stays : goal.returns-in_default-clause-stays
returns-in_default-clause-stays c = λ _.
    ap (λ (m : ByteMap Kept). record { manifests = m; tags = c.self.inside.tags }) (c.remove.ensures.removed ∙ removed_absent c.self.inside.manifests c.args.digest.now (sym c.in_default.ensures.was)) ∙ c.self.view_is

pub invariant_of-self-2 : goal.invariant_of-self-2
invariant_of-self-2 c = λ on.
    lists_gone c.self.inside.manifests c.remove.new.self c.self.inside.index.sets c.unlist_references.new.self.sets c.args.digest.now _ c.remove.ensures.removed c.unlist_references.ensures (c.self.invariant on)

use Rattle.std.proofs.Common.{◌≡◌, Option, Some, None, false, refl, ap, sym, is_some, ◌∙◌}
use Rattle.std.specs.FinMap as finite
use Rattle.zot_digest.specs.ByteMap.{ByteMap, map_of}
use Rattle.zot_maps.proofs.Maps.{byte_order, entries-remove, get-entries}
use Rattle.zot_manifests.proofs.TableLemmas.{removed_absent}
use Rattle.zot_manifests.proofs.TagLemmas.{tags_remove}
use Rattle.zot_model.specs.State.{StoredTag}
use Rattle.zot_manifests.proofs.tag_map.TagMap.remove.Goals as goal

pub invariant_of-self : goal.invariant_of-self
invariant_of-self c =
    tags_remove (map_of c.self.inside.tree.entries) (map_of c.remove.new.self.entries) c.words.result.now
    (entries-remove byte_order c.self.inside.tree.entries c.remove.new.self.entries c.words.result.now c.remove.ensures.updates.0) c.self.invariant

pub returns-clause-was : goal.returns-clause-was
returns-clause-was c =
    c.is_some.ensures
    ∙ ap is_some (c.remove.ensures.value ∙ sym (get-entries byte_order c.self.inside.tree.entries c.words.result.now) ∙ ap (λ m. finite.get m c.words.result.now) c.self.view_is ∙ ap (finite.get c.args.self.now) c.words.ensures.value)

pub returns-clause-removed : goal.returns-clause-removed
returns-clause-removed c =
    entries-remove byte_order c.self.inside.tree.entries c.remove.new.self.entries c.words.result.now c.remove.ensures.updates.0
    ∙ ap (λ (m : ByteMap StoredTag). finite.remove m c.words.result.now) c.self.view_is ∙ ap (finite.remove c.args.self.now) c.words.ensures.value

is_none : {X : Type 0} (o : Option X) → is_some o ≡ false → o ≡ None
is_none None h = refl
is_none (Some x) h = cc h

pub returns-clause-stays : goal.returns-clause-stays
returns-clause-stays c = λ h.
    entries-remove byte_order c.self.inside.tree.entries c.remove.new.self.entries c.words.result.now c.remove.ensures.updates.0
    ∙ removed_absent (map_of c.self.inside.tree.entries) c.words.result.now
    (get-entries byte_order c.self.inside.tree.entries c.words.result.now ∙ sym c.remove.ensures.value ∙ is_none c.remove.result (sym c.is_some.ensures ∙ h))
    ∙ c.self.view_is

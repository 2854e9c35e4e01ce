use Rattle.std.proofs.Common.{sym, ap, ◌∙◌}
use Rattle.std.specs.FinMap as finite
use Rattle.zot_digest.specs.ByteMap.{ByteMap, map_of}
use Rattle.zot_maps.proofs.Maps.{byte_order, entries-remove}
use Rattle.zot_manifests.proofs.TagIndexLemmas.{one_gone, one_stays}
use Rattle.zot_manifests.proofs.TagLemmas.{tags_remove}
use Rattle.zot_model.specs.State.{StoredTag}
use Rattle.zot_manifests.proofs.tag_map.TagMap.remove_from.Goals as goal

pub invariant_of-self : goal.invariant_of-self
invariant_of-self c =
    tags_remove (map_of c.self.inside.tree.entries) (map_of c.remove.new.self.entries) c.args.text.now
    (entries-remove byte_order c.self.inside.tree.entries c.remove.new.self.entries c.args.text.now c.remove.ensures.updates.0) c.self.invariant

pub returns-then-is_set_to : goal.returns-then-is_set_to
returns-then-is_set_to c =
    one_gone c.args.self.now (map_of c.remove.new.self.entries) c.args.text.now c.args.digest.now
    (entries-remove byte_order c.self.inside.tree.entries c.remove.new.self.entries c.args.text.now c.remove.ensures.updates.0 ∙ ap (λ (m : ByteMap StoredTag). finite.remove m c.args.text.now) c.self.view_is)
    (sym c.is_set_to.ensures ∙ c.if-is_set_to.true)

pub returns-else-is_set_to : goal.returns-else-is_set_to
returns-else-is_set_to c = one_stays c.args.self.now c.args.text.now c.args.digest.now (sym c.is_set_to.ensures ∙ c.if-is_set_to.false)

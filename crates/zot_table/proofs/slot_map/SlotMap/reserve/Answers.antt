use Rattle.std.proofs.Common.{None, sym, ap, ◌∙◌}
use Rattle.std.specs.FinMap as map
use Rattle.zot_maps.proofs.Maps.{byte_order, entries-insert}
use Rattle.zot_table.proofs.SlotLemmas.{reserved_new}
use Rattle.zot_table.specs.Tables.{Slots}
use Rattle.zot_table.proofs.slot_map.SlotMap.reserve.Goals as goal

pub returns-clause-ok : goal.returns-clause-ok
returns-clause-ok c =
    entries-insert byte_order c.self.inside.tree.entries c.insert.new.self.entries c.args.digest.now None c.in_ok-insert.ensures.updates.0
    ∙ ap (λ (m : Slots). map.insert m c.args.digest.now None) c.self.view_is
    ∙ reserved_new c.args.self.now c.args.digest.now (sym c.has_room.ensures ∙ c.if-has_room.false)

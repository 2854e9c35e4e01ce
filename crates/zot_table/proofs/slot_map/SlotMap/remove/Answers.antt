use Rattle.std.proofs.Common.{ap, ◌∙◌}
use Rattle.std.specs.FinMap as map
use Rattle.zot_maps.proofs.Maps.{byte_order, entries-remove}
use Rattle.zot_table.specs.Tables.{Slots}
use Rattle.zot_table.proofs.slot_map.SlotMap.remove.Goals as goal

pub returns : goal.returns
returns c =
    entries-remove byte_order c.self.inside.tree.entries c.remove.new.self.entries c.args.digest.now c.remove.ensures.updates.0
    ∙ ap (λ (m : Slots). map.remove m c.args.digest.now) c.self.view_is

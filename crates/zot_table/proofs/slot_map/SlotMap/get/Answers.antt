use Rattle.std.proofs.Common.{sym, ap, ◌∙◌}
use Rattle.std.specs.FinMap as map
use Rattle.zot_maps.proofs.Maps.{byte_order, get-entries}
use Rattle.zot_table.proofs.slot_map.SlotMap.get.Goals as goal

pub returns : goal.returns
returns c = c.get.ensures.value ∙ sym (get-entries byte_order c.self.inside.tree.entries c.args.digest.now) ∙ ap (λ m. map.get m c.args.digest.now) c.self.view_is

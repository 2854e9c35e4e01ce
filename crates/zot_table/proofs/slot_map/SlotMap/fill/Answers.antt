use Rattle.std.proofs.Common.{Some}
use Rattle.zot_maps.proofs.Entries.{map_written}
use Rattle.zot_maps.proofs.Maps.{byte_order}
use Rattle.zot_table.proofs.SlotLemmas.{not_there}
use Rattle.zot_table.proofs.slot_map.SlotMap.fill.Goals as goal

pub unreachable-requires : goal.unreachable-requires
unreachable-requires c = not_there c.self.inside.tree.entries c.args.self.now c.args.digest.now c.self.view_is c.in-None.ensures.value c.requires

pub returns : goal.returns
returns c =
    map_written byte_order c.self.inside.tree.entries (c.get_mut.follows.lender (Some c.args.entry)).entries c.args.self.now c.args.digest.now c.in-Some.slot.now (Some c.args.entry)
    c.self.view_is c.in-Some.ensures.value (c.get_mut.follows.holds (Some c.args.entry)).3

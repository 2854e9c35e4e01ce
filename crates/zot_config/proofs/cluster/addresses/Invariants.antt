use Rattle.std.proofs.Common.{◌≡◌, [], drop}
use Rattle.serde_json.specs.View.{items_view}
use Rattle.zot_config.specs.Table.{members_of}
use Rattle.zot_config.proofs.cluster.addresses.Given as goal

abbrev pub invariant-loop-item : goal.invariant-loop-item
invariant-loop-item l = members_of [] (items_view l.items) ≡ members_of l.earlier.items (items_view (drop l.item-index l.items))

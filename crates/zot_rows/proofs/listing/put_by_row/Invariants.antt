use Rattle.std.specs.Vec.Iter.{into_iter_items}
use Rattle.zot_rows.specs.Listing.{ArePut}
use Rattle.zot_rows.proofs.listing.put_by_row.Given as goal

-- the holdings that were put are those before the ones that are left
abbrev pub invariant-loop-holding : goal.invariant-loop-holding
invariant-loop-holding l = ArePut l.key l.members l.initial.lists.items l.lists.items l.fn.holdings.items (into_iter_items l.holding-iterator)

use Rattle.std.proofs.Common.{◌≡◌, [], map as each}
use Rattle.std.specs.List.{range_with_len}
use Rattle.zot_rows.specs.Listing.{lists_of, of_row}
use Rattle.zot_rows.proofs.listing.empty_lists.Given as goal

-- as many lists as rows so far, all empty
abbrev pub invariant-loop : goal.invariant-loop
invariant-loop l = lists_of l.lists.items ≡ each (λ row. of_row [] 0 row []) (range_with_len 0 l.counter)

use Rattle.std.proofs.Common.{◌≡◌}
use Rattle.zot_pool.specs.Pools.{AreDeduped, AreTightPool, faults_of, holds, objects_of}
use Rattle.zot_rows.specs.Listing.{AreListed, lists_of}
use Rattle.zot_rows.proofs.listing.held_by_rows.Given as goal

-- the lists are what the shards so far hold, and no part has changed
abbrev pub invariant-loop-number : goal.invariant-loop-number
invariant-loop-number g l =
    AreListed l.key l.members l.number (holds (objects_of l.initial.pool.shards.items)) (lists_of l.lists.items)
    × (objects_of l.pool.shards.items ≡ objects_of l.initial.pool.shards.items)
    × (faults_of l.pool.shards.items ≡ faults_of l.initial.pool.shards.items)
    × (AreTightPool l.initial.pool.shards.items → AreTightPool l.pool.shards.items)
    × (AreDeduped l.initial.pool.shards.items → AreDeduped l.pool.shards.items)

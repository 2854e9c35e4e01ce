use Rattle.std.proofs.Common.{◌-◌, ◌≤◌, length, drop}
use Rattle.zot_head.specs.Progress.{Advances}
use Rattle.zot_head.proofs.chunks.Chunks.feed.Given as goal

abbrev pub invariant-loop-taken : goal.invariant-loop-taken
invariant-loop-taken l =
    (l.taken ≤ length l.piece) × Advances l.initial.self l.piece l.self (drop l.taken l.piece) l.initial.out.items l.out.items

abbrev pub decreases-loop-taken : goal.decreases-loop-taken
decreases-loop-taken l = length l.piece - l.taken

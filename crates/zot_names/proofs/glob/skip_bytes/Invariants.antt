use Rattle.std.proofs.Common.{◌≤◌, length}
use Rattle.zot_names.specs.Tries.{IsAfterBytes}
use Rattle.zot_names.proofs.glob.skip_bytes.Given as goal

abbrev pub invariant-loop-piece : goal.invariant-loop-piece
invariant-loop-piece l = IsAfterBytes l.fn.glob l.fn.text l.pieces l.rest × (length l.pieces ≤ length l.fn.glob)

abbrev pub decreases-loop-piece : goal.decreases-loop-piece
decreases-loop-piece l = length l.pieces

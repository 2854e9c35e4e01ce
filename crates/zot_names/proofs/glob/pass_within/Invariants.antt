use Rattle.std.proofs.Common.{◌+◌, ◌≤◌, length}
use Rattle.zot_names.specs.Tries.{IsLeft}
use Rattle.zot_names.specs.declared.piece.Piece.TheVariants.{Within}
use Rattle.zot_names.proofs.glob.pass_within.Given as goal

abbrev pub invariant-loop-after : goal.invariant-loop-after
invariant-loop-after l =
    IsLeft Within l.starred l.fn.glob l.fn.text l.pieces l.rest × (length l.pieces + length l.rest ≤ length l.fn.glob + length l.fn.text)

abbrev pub decreases-loop-after : goal.decreases-loop-after
decreases-loop-after l = length l.pieces + length l.rest

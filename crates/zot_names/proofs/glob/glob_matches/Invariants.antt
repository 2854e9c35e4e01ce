use Rattle.std.proofs.Common.{◌+◌, length}
use Rattle.std.specs.Prelude.{◌↔◌}
use Rattle.zot_names.specs.Glob.{Matches, StandFor, pieces_of}
use Rattle.zot_names.specs.Tries.{after_star}
use Rattle.zot_names.specs.declared.piece.Piece.TheVariants.{Across}
use Rattle.zot_names.proofs.glob.glob_matches.Given as goal

abbrev pub invariant-loop-after : goal.invariant-loop-after
invariant-loop-after l = Matches l.fn.glob l.fn.name ↔ StandFor (after_star l.starred Across (pieces_of l.pieces)) l.rest

abbrev pub decreases-loop-after : goal.decreases-loop-after
decreases-loop-after l = length l.pieces + length l.rest

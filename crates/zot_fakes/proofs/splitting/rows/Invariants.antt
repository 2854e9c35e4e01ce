use Rattle.std.proofs.Common.{map as each, string_bytes}
use Rattle.zot_fakes.specs.Given.{objects_of}
use Rattle.zot_fakes.specs.Split.{AreParts, row_part}
use Rattle.zot_fakes.proofs.splitting.rows.Given as goal

-- the parts of the rows so far
abbrev pub invariant-loop-row : goal.invariant-loop-row
invariant-loop-row l = AreParts (row_part l.key l.members) l.row (objects_of (each (λ o. (string_bytes o.0, o.1.items)) l.objects)) l.rows.items

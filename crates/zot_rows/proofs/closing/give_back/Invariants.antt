use Rattle.std.proofs.Common.{◌≡◌, ◌≤◌, ◌+◌, ◌++◌, map, vec_len}
use Rattle.std.specs.Vec.{vec_capacity}
use Rattle.zot_rows.proofs.closing.give_back.Given as goal

-- the parts of the rows that are left, before those that were put, are all
abbrev pub invariant-loop-row : goal.invariant-loop-row
invariant-loop-row g l =
    (vec_len l.rows + vec_len l.parts ≤ vec_capacity l.parts)
    × (map (λ r. r.core.part) l.rows.items ++ l.parts.items ≡ map (λ r. r.core.part) l.initial.rows.items ++ l.initial.parts.items)

abbrev pub decreases-loop-row : goal.decreases-loop-row
decreases-loop-row g l = vec_len l.rows

use Rattle.std.proofs.Common.{◌≡◌, ◌≤◌, ◌+◌, ◌++◌, map, vec_len}
use Rattle.std.specs.Vec.{vec_capacity}
use Rattle.zot_pool.proofs.opening.give_back.Given as goal

-- the parts of the shards that are left, before those that were put, are all
abbrev pub invariant-loop-shard : goal.invariant-loop-shard
invariant-loop-shard g l =
    (vec_len l.shards + vec_len l.parts ≤ vec_capacity l.parts)
    × (map (λ s. s.part) l.shards.items ++ l.parts.items ≡ map (λ s. s.part) l.initial.shards.items ++ l.initial.parts.items)

abbrev pub decreases-loop-shard : goal.decreases-loop-shard
decreases-loop-shard g l = vec_len l.shards

use Rattle.std.proofs.Common.{map as each, string_bytes}
use Rattle.zot_fakes.specs.Given.{objects_of}
use Rattle.zot_fakes.specs.Split.{AreParts, shard_part}
use Rattle.zot_fakes.proofs.splitting.shards.Given as goal

-- the parts of the shards so far
abbrev pub invariant-loop-shard : goal.invariant-loop-shard
invariant-loop-shard l = AreParts shard_part l.shard (objects_of (each (λ o. (string_bytes o.0, o.1.items)) l.objects)) l.shards.items

use Rattle.zot_fakes.proofs.SplitLemmas.{parts_more}
use Rattle.zot_fakes.specs.Split.{shard_part}
use Rattle.zot_fakes.proofs.splitting.shards.Goals as goal

pub loop-shard-preserved : goal.loop-shard-preserved
loop-shard-preserved c =
    rw c.in_ok-push.ensures.items
    (parts_more shard_part c.loop-shard.shard _ c.loop-shard.shards.items c.in_ok-part_of.field-0 c.loop-shard.invariant c.in_ok-part_of.ensures)

use Rattle.zot_fakes.proofs.owners.owns.Goals as goal

pub returns-in-Shard : goal.returns-in-Shard
returns-in-Shard c = rw c.in-Shard.is c.shard_owns.ensures

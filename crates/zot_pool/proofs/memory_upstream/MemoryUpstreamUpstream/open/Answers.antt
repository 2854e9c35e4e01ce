use Rattle.zot_pool.proofs.UpstreamLemmas.{nothing_opened}
use Rattle.zot_pool.proofs.memory_upstream.MemoryUpstreamUpstream.open.Goals as goal

pub returns-clause-ok : goal.returns-clause-ok
returns-clause-ok c = nothing_opened c.args._permit.now.seat c.args._kind c.args._permit.now.digest

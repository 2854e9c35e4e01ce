use Rattle.zot_pool.proofs.UpstreamLemmas.{nothing_resolved}
use Rattle.zot_pool.proofs.memory_upstream.MemoryUpstreamUpstream.resolve.Goals as goal

pub returns-clause-ok : goal.returns-clause-ok
returns-clause-ok c = nothing_resolved c.args._what.now

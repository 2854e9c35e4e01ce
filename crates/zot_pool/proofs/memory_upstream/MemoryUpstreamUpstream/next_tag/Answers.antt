use Rattle.std.specs.Prelude.{option_copied}
use Rattle.zot_pool.proofs.UpstreamLemmas.{no_tags}
use Rattle.zot_pool.proofs.memory_upstream.MemoryUpstreamUpstream.next_tag.Goals as goal

pub returns-clause-ok : goal.returns-clause-ok
returns-clause-ok c = no_tags (option_copied c.args._after)

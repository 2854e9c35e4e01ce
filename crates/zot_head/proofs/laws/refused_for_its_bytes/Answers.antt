use Rattle.zot_head.proofs.ChunkLemmas.{broken_of_bytes}
use Rattle.zot_head.proofs.laws.refused_for_its_bytes.Goals as goal

pub returns : goal.returns
returns c = broken_of_bytes

use Rattle.zot_head.proofs.ReadLemmas.{crowded_if}
use Rattle.zot_head.proofs.read.is_crowded.Goals as goal

pub returns-in-Some : goal.returns-in-Some
returns-in-Some c = crowded_if c.args.bytes.now c.in-Some.n c.lines_in.result c.in-Some.ensures.value c.lines_in.ensures

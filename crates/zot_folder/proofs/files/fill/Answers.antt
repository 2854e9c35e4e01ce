use Rattle.std.proofs.Common.{rules}
use Rattle.zot_outside.proofs.StreamLemmas.{Takes-fill}
use Rattle.zot_folder.proofs.files.fill.Goals as goal

pub loop-n-preserved : goal.loop-n-preserved
loop-n-preserved g c =
    (search rules, search rules, Takes-fill _ _ _ c.loop-n.buf c.read.new.buf c.loop-n.n c.in_ok-more.more c.loop-n.invariant.0 (c.in_ok-more.ensures.bound.0) c.loop-n.invariant.2 (c.in_ok-more.ensures.bytes.0))

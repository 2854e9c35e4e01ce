use Rattle.std.proofs.Common.{refl, arith}
use Rattle.zot_head.specs.Limits.{chunk_line_limit}
use Rattle.zot_head.proofs.chunks.Chunks.new.Goals as goal

pub invariant_of-result : goal.invariant_of-result
unfolding chunk_line_limit
invariant_of-result c = rw c.new.ensures (refl, omega arith)

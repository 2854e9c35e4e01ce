use Rattle.std.proofs.Common.{refl, arith}
use Rattle.zot_head.specs.Limits.{chunk_line_limit}
use Rattle.zot_head.proofs.after.after_tail_byte.Goals as goal

pub returns-in-Some-eq13-clause-sound : goal.returns-in-Some-eq13-clause-sound
unfolding chunk_line_limit
returns-in-Some-eq13-clause-sound c = (refl, omega arith)

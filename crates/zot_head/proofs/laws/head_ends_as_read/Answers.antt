use Rattle.zot_head.specs.Limits.{head_limit}
use Rattle.zot_head.proofs.PrintLemmas.{head_ends}
use Rattle.zot_head.proofs.laws.head_ends_as_read.Goals as goal

pub returns : goal.returns
returns c = λ bytes rest request. head_ends head_limit bytes rest request

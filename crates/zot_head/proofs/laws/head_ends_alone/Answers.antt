use Rattle.zot_head.specs.Limits.{head_limit}
use Rattle.zot_head.proofs.LineLemmas.{extent_cut}
use Rattle.zot_head.proofs.laws.head_ends_alone.Goals as goal

pub returns : goal.returns
returns c = λ bytes n. extent_cut head_limit n bytes

use Rattle.zot_head.proofs.FrontLemmas.{front_unique}
use Rattle.zot_head.proofs.laws.front_is_one.Goals as goal

pub returns : goal.returns
returns c = front_unique

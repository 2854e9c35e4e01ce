use Rattle.zot_head.proofs.FrontLemmas.{front_takes}
use Rattle.zot_head.proofs.laws.message_takes.Goals as goal

pub returns : goal.returns
returns c = front_takes

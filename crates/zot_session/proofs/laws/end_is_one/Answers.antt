use Rattle.zot_session.proofs.EndLemmas.{one_end}
use Rattle.zot_session.proofs.laws.end_is_one.Goals as goal

pub returns : goal.returns
returns c = one_end

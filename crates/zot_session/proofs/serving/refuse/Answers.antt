use Rattle.zot_session.specs.Turn.{stopped}
use Rattle.zot_session.proofs.serving.refuse.Goals as goal

pub returns-in-Err-clause-ends : goal.returns-in-Err-clause-ends
returns-in-Err-clause-ends g c = stopped c.in-Err.error c.end.ensures c.in-Err.ensures.sends

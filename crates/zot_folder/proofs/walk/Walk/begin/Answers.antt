use Rattle.zot_folder.proofs.walk.Walk.begin.Goals as goal

pub returns-in_err-reach-clause-walk : goal.returns-in_err-reach-clause-walk
returns-in_err-reach-clause-walk c = λ objects walk. c.reach.ensures.walk objects c.turn_to.ensures.ready (c.turn_to.ensures.walk objects walk)

pub returns-clause-walk : goal.returns-clause-walk
returns-clause-walk c = λ objects walk. c.reach.ensures.walk objects c.turn_to.ensures.ready (c.turn_to.ensures.walk objects walk)

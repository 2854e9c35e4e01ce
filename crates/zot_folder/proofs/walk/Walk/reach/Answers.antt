use Rattle.zot_folder.proofs.HeldLemmas.{later_walk}
use Rattle.zot_folder.proofs.walk.Walk.reach.Goals as goal

pub returns-in_ok-self-clause-walk : goal.returns-in_ok-self-clause-walk
returns-in_ok-self-clause-walk c = λ objects reached walk. later_walk objects c.args.self.now c.in_ok-self.field-0 c.args.path.now c.in_ok-self.ensures.ok reached walk

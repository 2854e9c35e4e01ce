use Rattle.zot_outside.proofs.ObjectLemmas.{left_along}
use Rattle.zot_outside.proofs.stores.laws.calls_leave_others.Goals as goal

pub returns : goal.returns
returns c = left_along

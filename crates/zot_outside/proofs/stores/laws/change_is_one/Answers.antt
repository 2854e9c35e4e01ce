use Rattle.zot_outside.proofs.ObjectLemmas.{one_change}
use Rattle.zot_outside.proofs.stores.laws.change_is_one.Goals as goal

pub returns : goal.returns
returns c = one_change

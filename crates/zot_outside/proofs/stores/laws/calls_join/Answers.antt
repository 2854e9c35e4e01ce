use Rattle.zot_outside.proofs.ObjectLemmas.{joined_along}
use Rattle.zot_outside.proofs.stores.laws.calls_join.Goals as goal

pub returns : goal.returns
returns c = joined_along

use Rattle.zot_route.proofs.OneLemmas.{routes_one}
use Rattle.zot_route.proofs.laws.outcome_is_one.Goals as goal

pub returns : goal.returns
returns c = routes_one

use Rattle.zot_route.proofs.EndingLemmas.{path_one}
use Rattle.zot_route.proofs.laws.path_is_one.Goals as goal

pub returns : goal.returns
returns c = path_one

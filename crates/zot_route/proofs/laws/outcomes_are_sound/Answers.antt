use Rattle.zot_route.proofs.ValidLemmas.{routes_sound}
use Rattle.zot_route.proofs.laws.outcomes_are_sound.Goals as goal

pub returns : goal.returns
returns c = routes_sound

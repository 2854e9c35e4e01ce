use Rattle.zot_layout.proofs.StandsLemmas.{stands_alike}
use Rattle.zot_layout.proofs.laws.what_is_stored_elsewhere_leaves_it.Goals as goal

pub returns : goal.returns
returns c = stands_alike

use Rattle.zot_layout.proofs.StandsLemmas.{marker_put}
use Rattle.zot_layout.proofs.laws.a_marker_makes_known.Goals as goal

pub returns : goal.returns
returns c = marker_put

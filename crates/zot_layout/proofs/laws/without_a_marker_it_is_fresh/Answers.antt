use Rattle.zot_layout.proofs.StandsLemmas.{marker_gone}
use Rattle.zot_layout.proofs.laws.without_a_marker_it_is_fresh.Goals as goal

pub returns : goal.returns
returns c = marker_gone

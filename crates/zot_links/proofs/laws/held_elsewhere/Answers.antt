use Rattle.zot_links.proofs.MeaningLemmas.{held_local}
use Rattle.zot_links.proofs.laws.held_elsewhere.Goals as goal

pub returns : goal.returns
returns c = held_local

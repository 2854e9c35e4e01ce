use Rattle.zot_links.proofs.MeaningLemmas.{stands_means}
use Rattle.zot_links.proofs.laws.what_stands_means.Goals as goal

pub returns : goal.returns
returns c = stands_means

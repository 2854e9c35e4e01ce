use Rattle.zot_links.proofs.MeaningLemmas.{object_local}
use Rattle.zot_links.proofs.laws.object_calls_are_local.Goals as goal

pub returns : goal.returns
returns c = object_local

use Rattle.zot_links.proofs.MeaningLemmas.{record_local}
use Rattle.zot_links.proofs.laws.record_calls_are_local.Goals as goal

pub returns : goal.returns
returns c = record_local

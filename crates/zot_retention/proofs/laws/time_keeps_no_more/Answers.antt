use Rattle.zot_retention.proofs.KeptLemmas.{kept_before}
use Rattle.zot_retention.proofs.laws.time_keeps_no_more.Goals as goal

pub returns : goal.returns
returns c = kept_before

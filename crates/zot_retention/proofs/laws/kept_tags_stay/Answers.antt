use Rattle.zot_retention.proofs.KeptLemmas.{kept_again}
use Rattle.zot_retention.proofs.laws.kept_tags_stay.Goals as goal

pub returns : goal.returns
returns c = kept_again

use Rattle.zot_collect.proofs.LawLemmas.{none_swept_again}
use Rattle.zot_collect.proofs.laws.swept_again.Goals as goal

pub returns : goal.returns
returns c = none_swept_again

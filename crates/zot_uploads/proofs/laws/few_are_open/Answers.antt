use Rattle.zot_uploads.proofs.CaseLemmas.{few}
use Rattle.zot_uploads.proofs.laws.few_are_open.Goals as goal

pub returns : goal.returns
returns c = few

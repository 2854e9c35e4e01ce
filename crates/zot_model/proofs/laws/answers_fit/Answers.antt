use Rattle.zot_model.proofs.FitLemmas.{answer_fits}
use Rattle.zot_model.proofs.laws.answers_fit.Goals as goal

pub returns : goal.returns
returns c = answer_fits

use Rattle.zot_model.proofs.FitLemmas.{common_fits}
use Rattle.zot_model.proofs.laws.common_refusals_fit.Goals as goal

pub returns : goal.returns
returns c = common_fits

use Rattle.zot_model.proofs.AloneLemmas.{stand_alone}
use Rattle.zot_model.proofs.laws.repositories_stand_alone.Goals as goal

pub returns : goal.returns
returns c = stand_alone

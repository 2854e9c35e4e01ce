use Rattle.zot_model.proofs.KeptLemmas.{step_keeps}
use Rattle.zot_model.proofs.laws.needed_blobs_stay.Goals as goal

pub returns : goal.returns
returns c = step_keeps

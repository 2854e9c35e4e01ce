use Rattle.zot_model.proofs.PushLemmas.{pulled_as_put}
use Rattle.zot_model.proofs.laws.manifest_comes_back.Goals as goal

pub returns : goal.returns
returns c = pulled_as_put

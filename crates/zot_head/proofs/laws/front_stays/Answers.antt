use Rattle.zot_head.proofs.FrontLemmas as lemmas
use Rattle.zot_head.proofs.laws.front_stays.Goals as goal

pub returns : goal.returns
returns c = lemmas.front_stays

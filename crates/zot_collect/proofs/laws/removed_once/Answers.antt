use Rattle.zot_collect.proofs.LawLemmas.{gone_once}
use Rattle.zot_collect.proofs.laws.removed_once.Goals as goal

pub returns : goal.returns
returns c = gone_once

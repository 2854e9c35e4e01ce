use Rattle.zot_collect.proofs.LawLemmas.{gone_with_parents}
use Rattle.zot_collect.proofs.laws.child_stays.Goals as goal

pub returns : goal.returns
returns c = gone_with_parents

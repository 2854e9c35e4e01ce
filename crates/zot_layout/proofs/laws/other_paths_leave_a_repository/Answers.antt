use Rattle.zot_layout.proofs.StandsLemmas.{stands_still}
use Rattle.zot_layout.proofs.laws.other_paths_leave_a_repository.Goals as goal

pub returns : goal.returns
returns c = stands_still

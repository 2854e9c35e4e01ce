use Rattle.zot_repo.proofs.StepLemmas.{other_agrees, other_stays}
use Rattle.zot_repo.proofs.laws.other_rows_stay.Goals as goal

pub returns-clause-agrees : goal.returns-clause-agrees
returns-clause-agrees c = λ key members row tables name old new not kept agrees. other_agrees key members row tables name old new not kept agrees

pub returns-clause-same : goal.returns-clause-same
returns-clause-same c = λ key members row tables name old new faults not kept agrees. other_stays key members row tables name old new not kept faults agrees

use Rattle.zot_model.proofs.HistoryLemmas.{step_counts, step_later}
use Rattle.zot_model.proofs.laws.faults_rise_where_said.Goals as goal

pub returns-clause-later : goal.returns-clause-later
returns-clause-later c = step_later

pub returns-clause-said : goal.returns-clause-said
returns-clause-said c = step_counts

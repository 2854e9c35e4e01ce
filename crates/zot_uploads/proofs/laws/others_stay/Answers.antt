use Rattle.zot_uploads.proofs.CaseLemmas.{begun_beside, ended_beside, ended_itself, grown_beside}
use Rattle.zot_uploads.proofs.laws.others_stay.Goals as goal

pub returns-clause-begin : goal.returns-clause-begin
returns-clause-begin c = begun_beside

pub returns-clause-append : goal.returns-clause-append
returns-clause-append c = grown_beside

pub returns-clause-end : goal.returns-clause-end
returns-clause-end c = ended_beside

pub returns-clause-ended : goal.returns-clause-ended
returns-clause-ended c = ended_itself

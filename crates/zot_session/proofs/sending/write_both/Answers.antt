use Rattle.zot_session.proofs.PartLemmas.{both_err, part_before}
use Rattle.zot_session.proofs.sending.write_both.Goals as goal

pub returns-in-Err-clause-err : goal.returns-in-Err-clause-err
returns-in-Err-clause-err g c = part_before _ _ _ _ c.in-Err.ensures.err

pub returns-in-Ok-clause-err : goal.returns-in-Ok-clause-err
returns-in-Ok-clause-err g c = both_err c.write_all-in-Ok.result c.args.first.now c.args.second.now _ _ _ c.in-Ok.ensures.ok c.write_all-in-Ok.ensures.err

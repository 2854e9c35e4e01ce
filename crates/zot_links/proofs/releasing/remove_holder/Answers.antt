use Rattle.zot_links.proofs.WriteLemmas.{on_err}
use Rattle.zot_links.proofs.releasing.remove_holder.Goals as goal

pub returns-in_err-remove-clause-err : goal.returns-in_err-remove-clause-err
returns-in_err-remove-clause-err g c = on_err c.from_residual.result c.in_err-remove.ensures.err

pub returns-clause-ok : goal.returns-clause-ok
returns-clause-ok g c = c.in_ok-remove.ensures.ok

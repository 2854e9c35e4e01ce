use Rattle.zot_links.proofs.PartLemmas.{nothing, record_missing}
use Rattle.zot_links.proofs.part.record_is.Goals as goal

pub returns-in-Err-Missing-clause-ok : goal.returns-in-Err-Missing-clause-ok
returns-in-Err-Missing-clause-ok g c =
    record_missing (g.S.Store.objects c.args.part.now) c.args.path.now c.args.text.now c.is_empty.result (nothing c.args.text.now c.is_empty.result c.is_empty.ensures)
    (rw c.in-Err-Missing.field-0-is at c.in-Err-Missing.ensures.missing)

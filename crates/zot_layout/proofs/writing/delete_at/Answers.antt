use Rattle.zot_layout.proofs.ToldLemmas.{ok_so, told_absent, told_deleted}
use Rattle.zot_layout.proofs.writing.delete_at.Goals as goal

pub returns-in-Err-Missing-clause-ok : goal.returns-in-Err-Missing-clause-ok
returns-in-Err-Missing-clause-ok g c =
    told_absent (g.S.Store.objects c.args.part.now) (g.S.Store.objects c.delete.new.self) c.args.path.now (rw c.in-Err-Missing.field-0-is at c.in-Err-Missing.ensures.missing) c.in-Err-Missing.ensures.err

pub returns-in_default-2-clause-ok : goal.returns-in_default-2-clause-ok
returns-in_default-2-clause-ok g c =
    ok_so c.delete.result _ _ (told_deleted (g.S.Store.objects c.args.part.now) (g.S.Store.objects c.delete.new.self) c.args.path.now) c.delete.ensures.ok

use Rattle.zot_links.proofs.PartLemmas.{ok_so, path_gone}
use Rattle.zot_links.proofs.ToldLemmas.{told_deletes}
use Rattle.zot_links.proofs.part.delete_at.Goals as goal

pub returns-in-Err-Missing-clause-ok : goal.returns-in-Err-Missing-clause-ok
returns-in-Err-Missing-clause-ok g c =
    path_gone (g.S.Store.objects c.args.part.now) (g.S.Store.objects c.delete.new.self) c.args.path.now (rw c.in-Err-Missing.field-0-is at c.in-Err-Missing.ensures.missing) c.in-Err-Missing.ensures.err

pub returns-in_default-2-clause-ok : goal.returns-in_default-2-clause-ok
returns-in_default-2-clause-ok g c =
    ok_so c.delete.result _ _ (told_deletes (g.S.Store.objects c.args.part.now) (g.S.Store.objects c.delete.new.self) c.args.path.now) c.delete.ensures.ok

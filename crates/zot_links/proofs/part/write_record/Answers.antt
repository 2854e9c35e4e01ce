use Rattle.zot_links.proofs.PartLemmas.{nothing, ok_so, record_deleted, record_puts}
use Rattle.zot_links.proofs.part.write_record.Goals as goal

pub returns-then-is_empty-clause-ok : goal.returns-then-is_empty-clause-ok
returns-then-is_empty-clause-ok g c =
    ok_so c.delete_at.result _ _ (record_deleted (g.S.Store.objects c.args.part.now) (g.S.Store.objects c.delete_at.new.part) c.args.path.now c.args.text.now
    (nothing c.args.text.now c.is_empty.result c.is_empty.ensures c.if-is_empty.true)) c.delete_at.ensures.ok

pub returns-else-is_empty-clause-ok : goal.returns-else-is_empty-clause-ok
returns-else-is_empty-clause-ok g c =
    ok_so c.put.result _ _ (record_puts (g.S.Store.objects c.args.part.now) (g.S.Store.objects c.put.new.self) c.args.path.now c.args.text.now) c.put.ensures.ok

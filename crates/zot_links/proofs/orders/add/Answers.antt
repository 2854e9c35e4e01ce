use Rattle.std.proofs.Common.{refl}
use Rattle.zot_links.proofs.WriteLemmas.{add_done, kept_if, line_left, on_err}
use Rattle.zot_links.proofs.orders.add.Goals as goal

pub returns-in_err-put_object-clause-err : goal.returns-in_err-put_object-clause-err
returns-in_err-put_object-clause-err g c = on_err c.from_residual-in_err-put_object.result (line_left (g.S.Store.objects c.args.part.now) (g.S.Store.objects c.put_record.new.part) (g.S.Store.objects c.put_object.new.part) c.args.digest.now c.args.links.now c.in_ok-wanted.wanted c.args.name.now _
    c.in_ok-wanted.ensures c.in_ok-put_record.ensures.ok c.in_err-put_object.ensures.err)

pub returns-clause-ok : goal.returns-clause-ok
returns-clause-ok g c =
    add_done (g.S.Store.objects c.args.part.now) (g.S.Store.objects c.put_record.new.part) (g.S.Store.objects c.put_object.new.part) c.args.digest.now c.args.links.now c.in_ok-wanted.wanted c.args.name.now
    c.args.bytes.now _ c.in_ok-wanted.ensures c.in_ok-put_record.ensures.ok c.in_ok-put_object.ensures.ok

pub returns-in_err-wanted-clause-err : goal.returns-in_err-wanted-clause-err
returns-in_err-wanted-clause-err g c = on_err c.from_residual.result (kept_if (g.S.Store.objects c.args.part.now) (g.S.Store.objects c.args.part.now) c.args.digest.now c.args.links.now _ refl)

pub returns-in_err-put_record-clause-err : goal.returns-in_err-put_record-clause-err
returns-in_err-put_record-clause-err g c = on_err c.from_residual-in_err-put_record.result (kept_if (g.S.Store.objects c.args.part.now) (g.S.Store.objects c.put_record.new.part) c.args.digest.now c.args.links.now _ c.in_err-put_record.ensures.err)

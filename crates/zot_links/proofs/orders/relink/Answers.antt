use Rattle.std.proofs.Common.{refl}
use Rattle.zot_links.proofs.WriteLemmas.{kept_still, relink_done, on_err}
use Rattle.zot_links.proofs.orders.relink.Goals as goal

pub returns-clause-ok : goal.returns-clause-ok
returns-clause-ok g c =
    relink_done (g.S.Store.objects c.args.part.now) (g.S.Store.objects c.put_record.new.part) c.args.digest.now c.args.links.now c.in_ok-wanted.wanted c.args.name.now _
    c.in_ok-wanted.ensures c.in_ok-put_record.ensures.ok

pub returns-in_err-wanted-clause-err : goal.returns-in_err-wanted-clause-err
returns-in_err-wanted-clause-err g c = on_err c.from_residual.result (kept_still (g.S.Store.objects c.args.part.now) (g.S.Store.objects c.args.part.now) c.args.digest.now c.args.links.now refl)

pub returns-in_err-put_record-clause-err : goal.returns-in_err-put_record-clause-err
returns-in_err-put_record-clause-err g c = on_err c.from_residual-in_err-put_record.result (kept_still (g.S.Store.objects c.args.part.now) (g.S.Store.objects c.put_record.new.part) c.args.digest.now c.args.links.now c.in_err-put_record.ensures.err)

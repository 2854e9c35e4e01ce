use Rattle.std.proofs.Common.{refl}
use Rattle.zot_links.proofs.WriteLemmas.{kept_still, remove_done, on_err}
use Rattle.zot_links.proofs.orders.remove.Goals as goal

pub returns-clause-ok : goal.returns-clause-ok
returns-clause-ok g c =
    remove_done (g.S.Store.objects c.args.part.now) (g.S.Store.objects c.delete_object.new.part) (g.S.Store.objects c.tidy_record.new.part) c.args.digest.now c.args.links.now c.in_ok-left.left c.args.name.now
    c.in_ok-left.ensures c.in_ok-delete_object.ensures.ok c.tidy_record.ensures.kept

pub returns-in_err-left-clause-err : goal.returns-in_err-left-clause-err
returns-in_err-left-clause-err g c = on_err c.from_residual.result (kept_still (g.S.Store.objects c.args.part.now) (g.S.Store.objects c.args.part.now) c.args.digest.now c.args.links.now refl)

pub returns-in_err-delete_object-clause-err : goal.returns-in_err-delete_object-clause-err
returns-in_err-delete_object-clause-err g c = on_err c.from_residual-in_err-delete_object.result (kept_still (g.S.Store.objects c.args.part.now) (g.S.Store.objects c.delete_object.new.part) c.args.digest.now c.args.links.now c.in_err-delete_object.ensures.err)

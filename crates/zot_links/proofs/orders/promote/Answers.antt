use Rattle.std.proofs.Common.{refl}
use Rattle.zot_links.proofs.HoldLemmas.{promote_prepares}
use Rattle.zot_links.proofs.WriteLemmas.{kept_where, promote_copied, promote_done}
use Rattle.zot_links.proofs.orders.promote.Goals as goal

pub returns-in_err-replace_record-clause-kept : goal.returns-in_err-replace_record-clause-kept
returns-in_err-replace_record-clause-kept g c =
    promote_copied (g.S.Store.objects c.args.part.now) (g.S.Store.objects c.copy_object.new.part) (g.S.Store.objects c.replace_record.new.part) c.args.digest.now c.args.links.now c.args.name.now c.args.least.now
    c.in_ok-copy_object.ensures.ok c.in_err-replace_record.ensures.err

pub returns-clause-kept : goal.returns-clause-kept
returns-clause-kept g c =
    promote_done (g.S.Store.objects c.args.part.now) (g.S.Store.objects c.copy_object.new.part) (g.S.Store.objects c.replace_record.new.part) c.args.digest.now c.args.links.now c.in_ok-promoted.promoted
    c.args.name.now c.args.least.now c.in_ok-promoted.ensures c.in_ok-copy_object.ensures.ok c.in_ok-replace_record.ensures.ok

pub returns-in_err-promoted-clause-kept : goal.returns-in_err-promoted-clause-kept
returns-in_err-promoted-clause-kept g c = kept_where (g.S.Store.objects c.args.part.now) (g.S.Store.objects c.args.part.now) c.args.digest.now c.args.links.now _ _ refl

pub returns-in_err-copy_object-clause-kept : goal.returns-in_err-copy_object-clause-kept
returns-in_err-copy_object-clause-kept g c = kept_where (g.S.Store.objects c.args.part.now) (g.S.Store.objects c.copy_object.new.part) c.args.digest.now c.args.links.now _ _ c.in_err-copy_object.ensures.err

pub returns-clause-prepares : goal.returns-clause-prepares
returns-clause-prepares g c =
    promote_prepares (g.S.Store.objects c.args.part.now) (g.S.Store.objects c.copy_object.new.part) (g.S.Store.objects c.replace_record.new.part) c.args.digest.now c.args.links.now c.in_ok-promoted.promoted
    c.args.name.now c.args.least.now c.in_ok-promoted.ensures c.in_ok-copy_object.ensures.ok c.in_ok-replace_record.ensures.ok

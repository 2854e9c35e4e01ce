use Rattle.zot_links.proofs.HoldLemmas.{became_whole_done, became_whole_left, err_so}
use Rattle.zot_links.proofs.PartLemmas.{ok_so}
use Rattle.zot_links.proofs.WriteLemmas.{kept_if, on_err, set_here}
use Rattle.zot_links.proofs.holding.make_whole.Goals as goal

pub returns-in_err-put_object-clause-err : goal.returns-in_err-put_object-clause-err
returns-in_err-put_object-clause-err g c = on_err c.from_residual.result (kept_if (g.S.Store.objects c.args.part.now) (g.S.Store.objects c.put_object.new.part) c.args.digest.now c.args.links.now _ c.in_err-put_object.ensures.err)

pub returns-clause-ok : goal.returns-clause-ok
returns-clause-ok g c =
    ok_so c.relink.result _ _ (became_whole_done (g.S.Store.objects c.args.part.now) (g.S.Store.objects c.put_object.new.part) (g.S.Store.objects c.relink.new.part) c.args.digest.now c.args.links.now c.relink.new.links c.args.name.now c.args.bytes.now c.in_ok-put_object.ensures.ok) c.relink.ensures.ok

pub returns-clause-err : goal.returns-clause-err
returns-clause-err g c =
    err_so c.relink.result _ _ (became_whole_left (g.S.Store.objects c.args.part.now) (g.S.Store.objects c.put_object.new.part) (g.S.Store.objects c.relink.new.part) c.args.digest.now c.args.links.now c.relink.new.links c.args.name.now c.args.bytes.now c.in_ok-put_object.ensures.ok) c.relink.ensures.err

pub returns-clause-whole : goal.returns-clause-whole
returns-clause-whole g c = ok_so c.relink.result _ _ (set_here c.args.links.now c.relink.new.links c.args.name.now _) c.relink.ensures.links

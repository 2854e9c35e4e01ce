use Rattle.zot_links.proofs.HoldLemmas.{err_so, prepared_left}
use Rattle.zot_links.proofs.LinkingLemmas.{prepared_link}
use Rattle.zot_links.proofs.PartLemmas.{ok_so}
use Rattle.zot_links.proofs.WriteLemmas.{on_err}
use Rattle.zot_links.proofs.linking.hold_link.Goals as goal

pub returns-in_err-prepare-clause-err : goal.returns-in_err-prepare-clause-err
returns-in_err-prepare-clause-err g c = on_err c.from_residual.result c.in_err-prepare.ensures.err

pub returns-clause-ok : goal.returns-clause-ok
returns-clause-ok g c =
    ok_so c.write_link.result _ _ (prepared_link (g.S.Store.objects c.args.part.now) (g.S.Store.objects c.prepare.new.part) (g.S.Store.objects c.write_link.new.part) c.args.digest.now c.args.links.now c.prepare.new.links c.write_link.new.links c.args.name.now c.args.origin.now
    c.in_ok-prepare.ensures.ok) c.write_link.ensures.ok

pub returns-clause-err : goal.returns-clause-err
returns-clause-err g c =
    err_so c.write_link.result _ _ (prepared_left (g.S.Store.objects c.args.part.now) (g.S.Store.objects c.prepare.new.part) (g.S.Store.objects c.write_link.new.part) c.args.digest.now c.args.links.now c.prepare.new.links c.write_link.new.links c.args.name.now
    c.in_ok-prepare.ensures.ok) c.write_link.ensures.err

use Rattle.std.proofs.Common.{sym, refl, ◌∙◌}
use Rattle.std.specs.FinMap as map
use Rattle.zot_links.proofs.HoldLemmas.{absent_from, bytes_added, bytes_of_link, bytes_replaced, err_so, link_from, whole_from, with_absent, with_linked}
use Rattle.zot_links.proofs.PartLemmas.{ok_so}
use Rattle.zot_links.proofs.WriteLemmas.{kept_still, set_here}
use Rattle.zot_links.specs.Changes.{Keeps}
use Rattle.zot_links.proofs.holding.write_bytes.Goals as goal

pub returns-in-Absent-clause-ok : goal.returns-in-Absent-clause-ok
returns-in-Absent-clause-ok g c =
    ok_so c.add.result _ _ (bytes_added (g.S.Store.objects c.args.part.now) (g.S.Store.objects c.add.new.part) c.args.digest.now c.args.links.now c.add.new.links c.args.name.now c.args.bytes.now
    (absent_from (map.get c.args.links.now c.args.name.now) (sym c.form.ensures ∙ c.in-Absent.is))) c.add.ensures.ok

pub returns-in-Absent-clause-err : goal.returns-in-Absent-clause-err
returns-in-Absent-clause-err g c =
    err_so c.add.result _ _ (with_absent (g.S.Store.objects c.args.part.now) (g.S.Store.objects c.add.new.part) (λ old new. Keeps old c.args.digest.now c.args.links.now new c.add.new.links) c.args.digest.now c.args.links.now c.args.name.now
    (absent_from (map.get c.args.links.now c.args.name.now) (sym c.form.ensures ∙ c.in-Absent.is))) c.add.ensures.err

pub returns-in-Link-clause-ok : goal.returns-in-Link-clause-ok
returns-in-Link-clause-ok g c =
    ok_so c.make_whole.result _ _ (bytes_of_link (g.S.Store.objects c.args.part.now) (g.S.Store.objects c.make_whole.new.part) c.args.digest.now c.args.links.now c.make_whole.new.links c.args.name.now c.args.bytes.now
    (link_from c.args.links.now c.args.name.now (map.get c.args.links.now c.args.name.now) refl (sym c.form.ensures ∙ c.in-Link.is))) c.make_whole.ensures.ok

pub returns-in-Link-clause-err : goal.returns-in-Link-clause-err
returns-in-Link-clause-err g c =
    err_so c.make_whole.result _ _ (with_linked (g.S.Store.objects c.args.part.now) (g.S.Store.objects c.make_whole.new.part) (λ old new. Keeps old c.args.digest.now c.args.links.now new c.make_whole.new.links) c.args.digest.now c.args.links.now c.args.name.now
    (link_from c.args.links.now c.args.name.now (map.get c.args.links.now c.args.name.now) refl (sym c.form.ensures ∙ c.in-Link.is))) c.make_whole.ensures.err

pub returns-in-Whole-clause-ok : goal.returns-in-Whole-clause-ok
returns-in-Whole-clause-ok g c =
    ok_so c.put_object.result _ _ (bytes_replaced (g.S.Store.objects c.args.part.now) (g.S.Store.objects c.put_object.new.part) c.args.digest.now c.args.links.now c.args.name.now c.args.bytes.now
    (whole_from (map.get c.args.links.now c.args.name.now) (sym c.form.ensures ∙ c.in-Whole.is))) c.put_object.ensures.ok

pub returns-in-Whole-clause-err : goal.returns-in-Whole-clause-err
returns-in-Whole-clause-err g c = err_so c.put_object.result _ _ (kept_still (g.S.Store.objects c.args.part.now) (g.S.Store.objects c.put_object.new.part) c.args.digest.now c.args.links.now) c.put_object.ensures.err

pub returns-in-Absent-clause-whole : goal.returns-in-Absent-clause-whole
returns-in-Absent-clause-whole g c = ok_so c.add.result _ _ (set_here c.args.links.now c.add.new.links c.args.name.now _) c.add.ensures.links

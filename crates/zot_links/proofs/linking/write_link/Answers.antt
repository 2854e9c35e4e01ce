use Rattle.std.proofs.Common.{[], refl, sym, ◌∙◌}
use Rattle.std.specs.FinMap as map
use Rattle.zot_links.proofs.HoldLemmas.{absent_from, err_so, link_from, whole_from, with_absent}
use Rattle.zot_links.proofs.LinkingLemmas.{calls_of, link_added, link_moved, link_of_whole}
use Rattle.zot_links.proofs.PartLemmas.{ok_so}
use Rattle.zot_links.proofs.WriteLemmas.{set_here}
use Rattle.zot_links.specs.Changes.{Keeps}
use Rattle.zot_links.proofs.linking.write_link.Goals as goal

pub returns-in-Absent-clause-cause : goal.returns-in-Absent-clause-cause
returns-in-Absent-clause-cause g c = calls_of (g.S.Store.faults c.args.part.now) (g.S.Store.faults c.add.new.part) c.add.result c.add.ensures.cause

pub returns-in-Absent-clause-ok : goal.returns-in-Absent-clause-ok
returns-in-Absent-clause-ok g c =
    ok_so c.add.result _ _ (link_added (g.S.Store.objects c.args.part.now) (g.S.Store.objects c.add.new.part) c.args.digest.now c.args.links.now c.add.new.links c.args.name.now c.args.origin.now [] (absent_from (map.get c.args.links.now c.args.name.now) (sym c.form.ensures ∙ c.in-Absent.is))) c.add.ensures.ok

pub returns-in-Absent-clause-err : goal.returns-in-Absent-clause-err
returns-in-Absent-clause-err g c =
    err_so c.add.result _ _ (with_absent (g.S.Store.objects c.args.part.now) (g.S.Store.objects c.add.new.part) (λ old new. Keeps old c.args.digest.now c.args.links.now new c.add.new.links) c.args.digest.now c.args.links.now c.args.name.now
    (absent_from (map.get c.args.links.now c.args.name.now) (sym c.form.ensures ∙ c.in-Absent.is))) c.add.ensures.err

pub returns-in-Link-clause-cause : goal.returns-in-Link-clause-cause
returns-in-Link-clause-cause g c = calls_of (g.S.Store.faults c.args.part.now) (g.S.Store.faults c.relink.new.part) c.relink.result c.relink.ensures.cause

pub returns-in-Link-clause-ok : goal.returns-in-Link-clause-ok
returns-in-Link-clause-ok g c =
    ok_so c.relink.result _ _ (link_moved (g.S.Store.objects c.args.part.now) (g.S.Store.objects c.relink.new.part) c.args.digest.now c.args.links.now c.relink.new.links c.args.name.now c.args.origin.now
    (link_from c.args.links.now c.args.name.now (map.get c.args.links.now c.args.name.now) refl (sym c.form.ensures ∙ c.in-Link.is))) c.relink.ensures.ok

pub returns-in-Whole-clause-ok : goal.returns-in-Whole-clause-ok
returns-in-Whole-clause-ok g c =
    ok_so c.make_link.result _ _ (link_of_whole (g.S.Store.objects c.args.part.now) (g.S.Store.objects c.make_link.new.part) c.args.digest.now c.args.links.now c.make_link.new.links c.args.name.now c.args.origin.now
    (whole_from (map.get c.args.links.now c.args.name.now) (sym c.form.ensures ∙ c.in-Whole.is))) c.make_link.ensures.ok

pub returns-in-Absent-clause-link : goal.returns-in-Absent-clause-link
returns-in-Absent-clause-link g c = ok_so c.add.result _ _ (set_here c.args.links.now c.add.new.links c.args.name.now _) c.add.ensures.links

pub returns-in-Link-clause-link : goal.returns-in-Link-clause-link
returns-in-Link-clause-link g c = ok_so c.relink.result _ _ (set_here c.args.links.now c.relink.new.links c.args.name.now _) c.relink.ensures.links

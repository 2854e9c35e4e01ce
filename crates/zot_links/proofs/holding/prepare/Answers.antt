use Rattle.std.proofs.Common.{refl, sym, ◌∙◌}
use Rattle.std.specs.FinMap as map
use Rattle.zot_links.proofs.HoldLemmas.{absent_from, err_so, link_from, linked_no_whole, no_whole, prepared_still, whole_from, with_whole}
use Rattle.zot_links.proofs.PartLemmas.{ok_so}
use Rattle.zot_links.specs.Changes.{Keeps}
use Rattle.zot_links.specs.Holding.{Prepares}
use Rattle.zot_links.proofs.holding.prepare.Goals as goal

pub returns-in-Whole-clause-ok : goal.returns-in-Whole-clause-ok
returns-in-Whole-clause-ok g c =
    ok_so c.free.result _ _ (with_whole (g.S.Store.objects c.args.part.now) (g.S.Store.objects c.free.new.part) (λ old new. Prepares old c.args.digest.now c.args.links.now c.args.name.now new c.free.new.links) c.args.digest.now c.args.links.now c.args.name.now
    (whole_from (map.get c.args.links.now c.args.name.now) (sym c.form.ensures ∙ c.in-Whole.is))) c.free.ensures.ok

pub returns-in-Whole-clause-err : goal.returns-in-Whole-clause-err
returns-in-Whole-clause-err g c =
    err_so c.free.result _ _ (with_whole (g.S.Store.objects c.args.part.now) (g.S.Store.objects c.free.new.part) (λ old new. Keeps old c.args.digest.now c.args.links.now new c.free.new.links) c.args.digest.now c.args.links.now c.args.name.now
    (whole_from (map.get c.args.links.now c.args.name.now) (sym c.form.ensures ∙ c.in-Whole.is))) c.free.ensures.err

pub returns-in-Absent-clause-ok : goal.returns-in-Absent-clause-ok
returns-in-Absent-clause-ok g c = prepared_still (g.S.Store.objects c.args.part.now) c.args.digest.now c.args.links.now c.args.name.now (no_whole c.args.links.now c.args.name.now (absent_from (map.get c.args.links.now c.args.name.now) (sym c.form.ensures ∙ c.in-Absent.is)))

pub returns-in-Link-clause-ok : goal.returns-in-Link-clause-ok
returns-in-Link-clause-ok g c = prepared_still (g.S.Store.objects c.args.part.now) c.args.digest.now c.args.links.now c.args.name.now (linked_no_whole c.args.links.now c.args.name.now (link_from c.args.links.now c.args.name.now (map.get c.args.links.now c.args.name.now) refl (sym c.form.ensures ∙ c.in-Link.is)))

use Rattle.std.proofs.Common.{refl, subst, sym}
use Rattle.zot_links.proofs.HoldLemmas.{prepared_where, with_link}
use Rattle.zot_links.proofs.PartLemmas.{ok_so}
use Rattle.zot_links.proofs.WriteLemmas.{kept_if, on_err}
use Rattle.zot_links.specs.Changes.{Keeps}
use Rattle.zot_links.specs.Holding.{Prepares}
use Rattle.zot_links.specs.Meaning.{IsLink}
use Rattle.zot_links.proofs.holding.free.Goals as goal

pub returns-in_default-clause-ok : goal.returns-in_default-clause-ok
returns-in_default-clause-ok g c = prepared_where (g.S.Store.objects c.args.part.now) c.args.digest.now c.args.links.now c.args.name.now c.in_default.ensures.link

pub returns-in_err-least-clause-err : goal.returns-in_err-least-clause-err
returns-in_err-least-clause-err g c = on_err c.from_residual.result (kept_if (g.S.Store.objects c.args.part.now) (g.S.Store.objects c.args.part.now) c.args.digest.now c.args.links.now _ refl)

pub returns-clause-ok : goal.returns-clause-ok
returns-clause-ok g c =
    let link = subst (λ l. IsLink c.args.links.now l c.args.name.now) (sym c.in_ok-least.ensures) c.in-Some.ensures.link in
    ok_so c.promote.result _ _ (with_link (g.S.Store.objects c.args.part.now) (g.S.Store.objects c.promote.new.part) (λ old new. Prepares old c.args.digest.now c.args.links.now c.args.name.now new c.promote.new.links) c.args.digest.now c.args.links.now c.args.name.now c.in_ok-least.least link) c.promote.ensures.prepares

pub returns-clause-err : goal.returns-clause-err
returns-clause-err g c =
    let link = subst (λ l. IsLink c.args.links.now l c.args.name.now) (sym c.in_ok-least.ensures) c.in-Some.ensures.link in
    on_err c.promote.result (with_link (g.S.Store.objects c.args.part.now) (g.S.Store.objects c.promote.new.part) (λ old new. Keeps old c.args.digest.now c.args.links.now new c.promote.new.links) c.args.digest.now c.args.links.now c.args.name.now c.in_ok-least.least link c.promote.ensures.kept)

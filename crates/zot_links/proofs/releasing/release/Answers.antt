use Rattle.zot_links.proofs.HoldLemmas.{err_so, prepared_left}
use Rattle.zot_links.proofs.LineLemmas.{on_ok}
use Rattle.zot_links.proofs.ReleaseLemmas.{release_done}
use Rattle.zot_links.proofs.ToldLemmas.{where_stands}
use Rattle.zot_links.proofs.WriteLemmas.{on_err}
use Rattle.zot_links.specs.Changes.{Keeps}
use Rattle.zot_links.specs.Holding.{Releases}
use Rattle.zot_links.proofs.releasing.release.Goals as goal

pub returns-in_err-prepare-clause-err : goal.returns-in_err-prepare-clause-err
returns-in_err-prepare-clause-err g c =
    on_err c.from_residual.result (where_stands (g.S.Store.objects c.args.part.now) (g.S.Store.objects c.prepare.new.part) c.args.digest.now c.args.links.now
    (λ old new. Keeps old c.args.digest.now c.args.links.now new c.prepare.new.links) c.requires.stands c.in_err-prepare.ensures.err)

pub returns-clause-ok : goal.returns-clause-ok
returns-clause-ok g c =
    on_ok c.release_now.result _ _ (λ was h. where_stands (g.S.Store.objects c.args.part.now) (g.S.Store.objects c.release_now.new.part) c.args.digest.now c.args.links.now
    (λ old new. Releases was old c.args.digest.now c.args.links.now c.args.name.now new c.release_now.new.links) c.requires.stands
    (release_done (g.S.Store.objects c.args.part.now) (g.S.Store.objects c.prepare.new.part) (g.S.Store.objects c.release_now.new.part) c.args.digest.now c.args.links.now c.prepare.new.links c.release_now.new.links c.args.name.now was
    c.release_now.ensures.name c.in_ok-prepare.ensures.ok h)) c.release_now.ensures.ok

pub returns-clause-err : goal.returns-clause-err
returns-clause-err g c =
    err_so c.release_now.result _ _ (λ h. where_stands (g.S.Store.objects c.args.part.now) (g.S.Store.objects c.release_now.new.part) c.args.digest.now c.args.links.now
    (λ old new. Keeps old c.args.digest.now c.args.links.now new c.release_now.new.links) c.requires.stands
    (prepared_left (g.S.Store.objects c.args.part.now) (g.S.Store.objects c.prepare.new.part) (g.S.Store.objects c.release_now.new.part) c.args.digest.now c.args.links.now c.prepare.new.links c.release_now.new.links c.args.name.now
    c.in_ok-prepare.ensures.ok h)) c.release_now.ensures.err

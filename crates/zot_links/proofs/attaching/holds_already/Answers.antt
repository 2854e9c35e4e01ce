use Rattle.zot_links.proofs.AimLemmas.{not_held, same_held}
use Rattle.zot_links.proofs.LineLemmas.{on_ok}
use Rattle.zot_links.proofs.attaching.holds_already.Goals as goal

pub returns-in-Some-clause-ok : goal.returns-in-Some-clause-ok
returns-in-Some-clause-ok g c =
    on_ok c.object_is.result _ _ (λ same h. same_held (g.S.Store.objects c.args.part.now) c.args.digest.now c.args.links.now c.args.name.now c.in-Some.source.now c.args.bytes.now same
    c.requires c.in-Some.ensures.name c.in-Some.ensures.source h) c.object_is.ensures.ok

pub returns-in-None-clause-ok : goal.returns-in-None-clause-ok
returns-in-None-clause-ok g c =
    not_held (g.S.Store.objects c.args.part.now) c.args.digest.now c.args.links.now c.args.name.now c.args.bytes.now c.requires c.in-None.ensures.name c.in-None.ensures.source

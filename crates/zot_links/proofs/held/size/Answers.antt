use Rattle.zot_links.proofs.HeldLemmas.{none_sized, size_found}
use Rattle.zot_links.proofs.held.size.Goals as goal

pub returns-in_default-clause-ok : goal.returns-in_default-clause-ok
returns-in_default-clause-ok g c =
    none_sized (g.S.Store.objects c.args.part.now) c.args.digest.now c.args.links.now c.args.name.now c.requires.stands c.in_default.ensures.name c.in_default.ensures.source

pub returns-clause-ok : goal.returns-clause-ok
returns-clause-ok g c =
    size_found (g.S.Store.objects c.args.part.now) c.args.digest.now c.args.links.now c.args.name.now c.in-Some.source.now c.in_ok-bytes.bytes c.requires.stands c.in-Some.ensures.name c.in-Some.ensures.source
    c.in_ok-bytes.ensures.ok

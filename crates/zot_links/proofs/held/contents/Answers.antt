use Rattle.zot_links.proofs.HeldLemmas.{bytes_found, none_found}
use Rattle.zot_links.proofs.held.contents.Goals as goal

pub returns-in_default-clause-ok : goal.returns-in_default-clause-ok
returns-in_default-clause-ok g c =
    none_found (g.S.Store.objects c.args.part.now) c.args.digest.now c.args.links.now c.args.name.now c.requires.stands c.in_default.ensures.name c.in_default.ensures.source

pub returns-clause-ok : goal.returns-clause-ok
returns-clause-ok g c =
    bytes_found (g.S.Store.objects c.args.part.now) c.args.digest.now c.args.links.now c.args.name.now c.in-Some.source.now c.in_ok-bytes.bytes.items c.requires.stands c.in-Some.ensures.name c.in-Some.ensures.source
    c.in_ok-bytes.ensures.ok

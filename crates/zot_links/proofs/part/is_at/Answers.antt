use Rattle.zot_links.proofs.PartLemmas.{path_compared}
use Rattle.zot_links.proofs.part.is_at.Goals as goal

pub returns-in-Ok-clause-ok : goal.returns-in-Ok-clause-ok
returns-in-Ok-clause-ok g c = path_compared (g.S.Store.objects c.args.part.now) c.args.path.now c.args.bytes.now c.in-Ok.same c.in-Ok.ensures.ok

use Rattle.zot_links.proofs.LinkLemmas.{redirected_get}
use Rattle.zot_links.proofs.links.Links.redirected.Goals as goal

pub returns : goal.returns
returns c = redirected_get c.args.from.now c.args.to.now c.self.inside.tree.entries c.in_ok-tree.tree.entries c.args.self.now c.in_ok-tree.ensures c.self.view_is

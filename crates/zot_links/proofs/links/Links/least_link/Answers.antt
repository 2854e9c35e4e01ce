use Rattle.std.proofs.Common.{sym, ap, ◌∙◌}
use Rattle.std.specs.FinMap as map
use Rattle.zot_links.proofs.LinkLemmas.{entries_of, first_is}
use Rattle.zot_links.specs.Promotion.{first_link}
use Rattle.zot_links.proofs.links.Links.least_link.Goals as goal

pub returns-clause-least : goal.returns-clause-least
returns-clause-least c =
    c.first_link.ensures.link
    ∙ ap (first_link c.args.name.now) (sym (entries_of c.self.inside.tree.entries c.first_link.ensures.ordered) ∙ ap (λ m. map.entries m) c.self.view_is)

pub returns-clause-link : goal.returns-clause-link
returns-clause-link c =
    first_is c.args.name.now c.self.inside.tree.entries c.args.self.now c.self.view_is c.first_link.ensures.ordered c.first_link.result c.first_link.ensures.link

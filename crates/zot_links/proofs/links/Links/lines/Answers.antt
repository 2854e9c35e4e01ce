use Rattle.zot_links.proofs.LineLemmas.{on_ok}
use Rattle.zot_links.proofs.LinkLemmas.{lines_are, lines_say}
use Rattle.zot_links.proofs.links.Links.lines.Goals as goal

pub returns-clause-lines : goal.returns-clause-lines
returns-clause-lines c = lines_are c.lines.result (λ lines. lines.items) c.self.inside.tree.entries c.lines.ensures.lines c.lines.ensures.names c.lines.ensures.ordered

pub returns-clause-all : goal.returns-clause-all
returns-clause-all c = on_ok c.lines.result _ _ (λ lines h. lines_say c.self.inside.tree.entries lines.items c.args.self.now h c.self.view_is) c.lines.ensures.lines

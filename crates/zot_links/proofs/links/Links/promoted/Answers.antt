use Rattle.std.proofs.Common.{◌≡◌, ◌∙◌, Some, None, ap, rules}
use Rattle.std.specs.FinMap as map
use Rattle.zot_links.proofs.LinkLemmas.{promoted_get}
use Rattle.zot_links.specs.Meaning.{Links}
use Rattle.zot_links.proofs.links.Links.promoted.Goals as goal

pub returns : goal.returns
returns c =
    let made : Links = c.in_ok-links.links in
    let is : c.set-2.new.self ≡ map.insert (map.insert made c.args.name.now (Some c.args.least.now)) c.args.least.now None = search rules in
    λ other. ap (λ (m : Links). map.get m other) is ∙ promoted_get made c.args.self.now c.args.name.now c.args.least.now c.in_ok-links.ensures other

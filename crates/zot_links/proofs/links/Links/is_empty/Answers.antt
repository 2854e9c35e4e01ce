use Rattle.std.proofs.Common.{◌≡◌, subst, Bool, true}
use Rattle.std.specs.FinMap as finite
use Rattle.zot_links.proofs.LinkLemmas.{empty_both}
use Rattle.zot_links.specs.Meaning.{Links}
use Rattle.zot_links.proofs.links.Links.is_empty.Goals as goal

pub returns : goal.returns
returns c =
    subst (λ (m : Links). (c.is_empty.result ≡ true → m ≡ finite.empty) × (m ≡ finite.empty → c.is_empty.result ≡ true)) c.self.view_is
    (empty_both c.self.inside.tree.entries c.is_empty.result c.is_empty.ensures.0 c.is_empty.ensures.1)

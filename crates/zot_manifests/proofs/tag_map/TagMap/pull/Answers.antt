use Rattle.std.proofs.Common.{ap, ◌∙◌, List, ℕ}
use Rattle.std.specs.FinMap as finite
use Rattle.zot_digest.specs.ByteMap.{map_of}
use Rattle.zot_model.specs.Manifests.{with_pull}
use Rattle.zot_manifests.proofs.TagLemmas.{pulled_none, pulled_there, tags_pulled}
use Rattle.zot_manifests.proofs.tag_map.TagMap.pull.Goals as goal

pub returns-in_default : goal.returns-in_default
returns-in_default c =
    ap (λ m. map_of m.entries) c.get_mut.follows.holds-at-none ∙ c.self.view_is
    ∙ pulled_none c.self.inside.tree.entries c.args.self.now c.words.result.now c.args.moment c.self.view_is c.in_default.ensures.value
    ∙ ap (λ (tag : List ℕ). with_pull c.args.moment c.args.self.now tag (finite.get c.args.self.now tag)) c.words.ensures.value

pub invariant_of-self-2 : goal.invariant_of-self-2
invariant_of-self-2 c =
    tags_pulled c.self.inside.tree.entries (c.get_mut.follows.lender c.pull.new.self).entries c.words.result.now c.in-Some.entry.now c.pull.new.self c.in-Some.ensures.value (c.get_mut.follows.holds c.pull.new.self).3 c.self.invariant

pub returns : goal.returns
returns c =
    pulled_there c.self.inside.tree.entries (c.get_mut.follows.lender c.pull.new.self).entries c.args.self.now c.words.result.now c.in-Some.entry.now c.pull.new.self c.args.moment
    c.self.view_is c.in-Some.ensures.value (c.get_mut.follows.holds c.pull.new.self).3 c.pull.ensures
    ∙ ap (λ (tag : List ℕ). with_pull c.args.moment c.args.self.now tag (finite.get c.args.self.now tag)) c.words.ensures.value

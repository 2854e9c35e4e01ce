use Rattle.std.proofs.Common.{List, ℕ, ap, ◌∙◌}
use Rattle.std.specs.FinMap as finite
use Rattle.zot_maps.proofs.Entries.{map_written}
use Rattle.zot_maps.proofs.Maps.{byte_order}
use Rattle.zot_manifests.proofs.BackLemmas.{no_tag}
use Rattle.zot_manifests.proofs.TagLemmas.{tags_pulled}
use Rattle.zot_manifests.proofs.tag_map.TagMap.replace.Goals as goal

pub unreachable-requires : goal.unreachable-requires
unreachable-requires c = no_tag c.self.inside.tree.entries c.args.self.now c.words.result.now c.args.tag.now c.self.view_is c.words.ensures.value c.in-None.ensures.value c.requires

pub invariant_of-self : goal.invariant_of-self
invariant_of-self c =
    tags_pulled c.self.inside.tree.entries (c.get_mut.follows.lender c.args.entry).entries c.words.result.now c.in-Some.old.now c.args.entry c.in-Some.ensures.value (c.get_mut.follows.holds c.args.entry).3 c.self.invariant

pub returns : goal.returns
returns c =
    map_written byte_order c.self.inside.tree.entries (c.get_mut.follows.lender c.args.entry).entries c.args.self.now c.words.result.now c.in-Some.old.now c.args.entry
    c.self.view_is c.in-Some.ensures.value (c.get_mut.follows.holds c.args.entry).3
    ∙ ap (λ (tag : List ℕ). finite.insert c.args.self.now tag c.args.entry) c.words.ensures.value

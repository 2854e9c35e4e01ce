use Rattle.std.proofs.Common.{◌≡◌, List, ℕ, not, rules, ap, ◌∙◌}
use Rattle.std.specs.Str.{bytes_eq}
use Rattle.std.proofs.lemmas.Map.Made.{filter_same_pairs}
use Rattle.zot_digest.specs.ByteMap.{ByteMap, map_of}
use Rattle.zot_manifests.proofs.BackLemmas.{all_without, fewer_tags}
use Rattle.zot_model.specs.Manifests.{without_tags_of}
use Rattle.zot_model.specs.State.{StoredTag}
use Rattle.zot_manifests.proofs.tag_map.TagMap.remove_of.Goals as goal

pub invariant_of-self : goal.invariant_of-self
invariant_of-self c =
    fewer_tags (map_of c.self.inside.tree.entries) (map_of c.retain.new.self.entries) c.args.digest.now
    (all_without c.self.inside.tree.entries c.retain.new.self.entries c.args.digest.now c.retain.ensures.was_ordered
    (filter_same_pairs _ (λ (e : List ℕ × StoredTag). not (bytes_eq e.1.digest c.args.digest.now)) _ (λ k v b w f' t. search rules) _ _ c.retain.ensures.filtered))
    c.self.invariant

pub returns : goal.returns
returns c =
    all_without c.self.inside.tree.entries c.retain.new.self.entries c.args.digest.now c.retain.ensures.was_ordered
    (filter_same_pairs _ (λ (e : List ℕ × StoredTag). not (bytes_eq e.1.digest c.args.digest.now)) _ (λ k v b w f' t. search rules) _ _ c.retain.ensures.filtered)
    ∙ ap (λ (m : ByteMap StoredTag). without_tags_of m c.args.digest.now) c.self.view_is

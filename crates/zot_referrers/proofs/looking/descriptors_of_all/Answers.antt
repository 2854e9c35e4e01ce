use Rattle.std.proofs.Common.{◌≡◌, ◌++◌, ◌∷◌, [], ℕ, List, map, rules, sym, ap, ◌∙◌}
use Rattle.std.specs.FinMap as finite
use Rattle.std.specs.List.{flat_map}
use Rattle.std.specs.List.Sorted.{IsStrictlySortedBy}
use Rattle.std.specs.Prelude.{option_map}
use Rattle.serde_json.specs.Data.{Data}
use Rattle.serde_json.specs.View.{view}
use Rattle.zot_digest.specs.ByteMap.{byte_cmp}
use Rattle.zot_manifests.specs.declared.kept.Kept.{Kept}
use Rattle.zot_maps.proofs.Entries.{entries_of_map}
use Rattle.zot_maps.proofs.Maps.{byte_order}
use Rattle.zot_media.specs.Referrers.{descriptor_value}
use Rattle.zot_referrers.specs.Listing.{listed_entry}
use Rattle.zot_referrers.proofs.ListingLemmas.{entries_all}
use Rattle.zot_referrers.proofs.WalkLemmas.{made_all, made_next}
use Rattle.zot_referrers.proofs.looking.descriptors_of_all.Goals as goal

pub loop-digest-init : goal.loop-digest-init
loop-digest-init g c =
    let listed = listed_entry (g.H.Held.sizes c.args.held.now) c.args.subject.now (option_map (λ text. text.now) c.args.wanted) in
    let given : c.into_iter-digest-iterator.result ≡ c.manifests.result.now.entries = search rules in
    let sorted : IsStrictlySortedBy byte_cmp (map (λ (e : List ℕ × Kept). e.0) c.manifests.result.now.entries) = search rules in
    ap (λ (es : List (List ℕ × Kept)). map descriptor_value (flat_map listed es))
    (ap finite.entries (sym c.manifests.ensures) ∙ entries_of_map byte_order c.manifests.result.now.entries sorted ∙ sym given)
    ∙ ap (λ (items : List Data). items ++ map descriptor_value (flat_map listed c.into_iter-digest-iterator.result)) (sym (ap (map view) c.new-descriptors.ensures.items))

pub loop-digest-preserved : goal.loop-digest-preserved
loop-digest-preserved g c =
    let listed = listed_entry (g.H.Held.sizes c.args.held.now) c.args.subject.now (option_map (λ text. text.now) c.args.wanted) in
    let next : c.loop-digest.digest-iterator ≡ (c.in-Some.digest.now, c.in-Some.kept.now) ∷ c.next.new.self = search rules in
    made_next descriptor_value listed (c.in-Some.digest.now, c.in-Some.kept.now) c.next.new.self (map descriptor_value (flat_map listed (finite.entries c.args.manifests.now.manifests)))
    (map view c.loop-digest.descriptors.items) (map view c.add_listed.new.descriptors.items)
    (c.loop-digest.invariant ∙ ap (λ (es : List (List ℕ × Kept)). map view c.loop-digest.descriptors.items ++ map descriptor_value (flat_map listed es)) next)
    c.in_ok-add_listed.ensures

pub returns : goal.returns
returns g c =
    let sizes = g.H.Held.sizes c.args.held.now in
    let wanted = option_map (λ text. text.now) c.args.wanted in
    let listed = listed_entry sizes c.args.subject.now wanted in
    let done : c.loop-digest.digest-iterator ≡ [] = search rules in
    sym (made_all descriptor_value listed (map descriptor_value (flat_map listed (finite.entries c.args.manifests.now.manifests))) (map view c.loop-digest.descriptors.items)
    (c.loop-digest.invariant ∙ ap (λ (es : List (List ℕ × Kept)). map view c.loop-digest.descriptors.items ++ map descriptor_value (flat_map listed es)) done))
    ∙ ap (map descriptor_value) (entries_all sizes c.args.manifests.now.manifests c.args.subject.now wanted)

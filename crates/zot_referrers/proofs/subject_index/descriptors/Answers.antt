use Rattle.std.proofs.Common.{◌≡◌, ◌++◌, ◌∷◌, [], map, refl, rules, sym, ap, ◌∙◌}
use Rattle.std.specs.List.{flat_map}
use Rattle.std.specs.Map.Iter.{deref}
use Rattle.std.specs.Prelude.{option_map}
use Rattle.std.proofs.lemmas.List.{map-append}
use Rattle.std.proofs.lemmas.Map.Iter.{iter_end}
use Rattle.serde_json.specs.View.{view}
use Rattle.zot_media.specs.Referrers.{descriptor_value}
use Rattle.zot_referrers.specs.Listing.{found_in}
use Rattle.zot_referrers.proofs.WalkLemmas.{made_more}
use Rattle.zot_referrers.proofs.subject_index.descriptors.Goals as goal

pub loop-digest-init : goal.loop-digest-init
loop-digest-init g c = ap (map view) c.new-descriptors.ensures.items

pub loop-digest-preserved : goal.loop-digest-preserved
loop-digest-preserved g c =
    let found = found_in (g.H.Held.sizes c.args.held.now) c.args.manifests.now.manifests c.args.subject.now (option_map (λ text. text.now) c.args.wanted) in
    made_more descriptor_value found (map deref c.loop-digest.yielded) c.in-Some.digest.now (map view c.loop-digest.descriptors.items) (map view c.add_found.new.descriptors.items)
    c.loop-digest.invariant c.in_ok-add_found.ensures
    ∙ ap (λ digests. map descriptor_value (flat_map found digests)) (sym (map-append deref c.loop-digest.yielded (c.in-Some.digest ∷ [])))

pub returns-clause-found : goal.returns-clause-found
returns-clause-found g c =
    let all : map deref c.loop-digest.yielded ≡ c.args.listed.now.keys = search (rules, iter_end) in
    c.loop-digest.invariant
    ∙ ap (λ digests. map descriptor_value (flat_map (found_in (g.H.Held.sizes c.args.held.now) c.args.manifests.now.manifests c.args.subject.now (option_map (λ text. text.now) c.args.wanted)) digests)) all

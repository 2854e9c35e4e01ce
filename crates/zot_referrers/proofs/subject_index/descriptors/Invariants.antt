use Rattle.std.proofs.Common.{◌≡◌, map}
use Rattle.std.specs.List.{flat_map}
use Rattle.std.specs.Map.Iter.{deref}
use Rattle.std.specs.Prelude.{option_map}
use Rattle.serde_json.specs.View.{view}
use Rattle.zot_media.specs.Referrers.{descriptor_value}
use Rattle.zot_referrers.specs.Listing.{found_in}
use Rattle.zot_referrers.proofs.subject_index.descriptors.Given as goal

-- the descriptors are those of the digests so far
abbrev pub invariant-loop-digest : goal.invariant-loop-digest
invariant-loop-digest g l =
    map view l.descriptors.items ≡ map descriptor_value (flat_map (found_in (g.H.Held.sizes l.held) l.manifests.manifests l.subject (option_map (λ text. text.now) l.wanted)) (map deref l.yielded))

use Rattle.std.proofs.Common.{◌≡◌, ◌++◌, map}
use Rattle.std.specs.FinMap as finite
use Rattle.std.specs.List.{flat_map}
use Rattle.std.specs.Prelude.{option_map}
use Rattle.serde_json.specs.View.{view}
use Rattle.zot_media.specs.Referrers.{descriptor_value}
use Rattle.zot_referrers.specs.Listing.{listed_entry}
use Rattle.zot_referrers.proofs.looking.descriptors_of_all.Given as goal

-- the descriptors so far, with those of the manifests that are left, are all
abbrev pub invariant-loop-digest : goal.invariant-loop-digest
invariant-loop-digest g l =
    let listed = listed_entry (g.H.Held.sizes l.held) l.subject (option_map (λ text. text.now) l.wanted) in
    map descriptor_value (flat_map listed (finite.entries l.manifests.manifests)) ≡ map view l.descriptors.items ++ map descriptor_value (flat_map listed l.digest-iterator)

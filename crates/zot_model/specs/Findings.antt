-- What a scrub finds wrong in a repository: rules of this project.
use Rattle.std.specs.Prelude.{ℕ, Bool, true, not, List, [], ◌∷◌, ◌++◌, map, if◌then◌else◌}
use Rattle.std.specs.FinMap as finite
use Rattle.std.specs.List.{filter, flat_map, list_any}
use Rattle.std.specs.Str.{bytes_eq}
use Rattle.zot_digest.specs.ByteMap.{map_of}
use Rattle.zot_digest.specs.Digest.{is_sound}
use Rattle.zot_media.specs.References.{needed}
use Rattle.zot_model.specs.declared.finding.Finding.{Finding}
use Rattle.zot_model.specs.declared.finding.Finding.TheVariants.{Damaged, Missing}
use Rattle.zot_model.specs.declared.manifest_row.ManifestRow.{ManifestRow}

-- whether a digest is one of these blobs, which stand with their bytes
abbrev pub has_blob : List (List ℕ × List ℕ) → List ℕ → Bool
has_blob contents digest = list_any (λ blob. bytes_eq blob.0 digest) contents

-- the blobs whose bytes don't have their digest, in their order
abbrev pub damaged : List (List ℕ × List ℕ) → List Finding
damaged contents = map (λ blob. Damaged blob.0) (filter (λ blob. not (is_sound blob.0 blob.1)) contents)

-- the digests in byte order, each once
abbrev pub in_order : List (List ℕ) → List (List ℕ)
in_order digests = finite.keys (map_of (map (λ digest. (digest, true)) digests))

-- what a manifest lacks: its own bytes, or of what it needs what is no blob
abbrev pub missing_of : List (List ℕ × List ℕ) → ManifestRow → List Finding
missing_of contents row =
    if has_blob contents row.digest
    then map (λ digest. Missing row.digest digest) (in_order (filter (λ digest. not (has_blob contents digest)) (needed row.reading)))
    else Missing row.digest row.digest ∷ []

-- what is found: the damaged blobs, and then what manifests lack, in the order of their digests
unfoldable pub findings : List (List ℕ × List ℕ) → List ManifestRow → List Finding
findings contents manifests = damaged contents ++ flat_map (missing_of contents) manifests

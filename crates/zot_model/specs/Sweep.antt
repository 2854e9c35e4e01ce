-- Which blobs a collection removes from a repository: rules of this project.
use Rattle.std.specs.Prelude.{ℕ, Bool, not, ◌&&◌, ◌||◌, List, map}
use Rattle.std.specs.List.{filter, list_any}
use Rattle.std.specs.Str.{bytes_eq}
use Rattle.zot_model.specs.Ages.{is_aged}
use Rattle.zot_model.specs.declared.manifest_row.ManifestRow.{ManifestRow}
use Rattle.zot_media.specs.References.{refers}

-- a manifest is the blob of a digest, or refers to it: by its config, a layer or a child
abbrev pub holds : ManifestRow → List ℕ → Bool
holds row digest = bytes_eq row.digest digest || refers row.reading digest

-- some manifest is the blob of a digest, or refers to it
abbrev pub is_held : List ManifestRow → List ℕ → Bool
is_held manifests digest = list_any (λ row. holds row digest) manifests

-- the digests of blobs that have the moments at which they arrived
abbrev pub blob_digests : List (List ℕ × ℕ) → List (List ℕ)
blob_digests blobs = map (λ blob. blob.0) blobs

-- a blob may be removed where it is at least as old as the delay, is no manifest, and no manifest refers to it
abbrev pub is_sweepable : List ManifestRow → ℕ → ℕ → List ℕ × ℕ → Bool
is_sweepable manifests moment delay blob = is_aged moment delay blob.1 && not (is_held manifests blob.0)

-- the blobs that may be removed, in their order
abbrev pub swept : List ManifestRow → List (List ℕ × ℕ) → ℕ → ℕ → List (List ℕ)
swept manifests blobs moment delay = blob_digests (filter (is_sweepable manifests moment delay) blobs)

-- The manifests and tags of one repository (OCI Distribution Specification, "Pulling manifests", "Pushing Manifests" and "Deleting Manifests").
use Rattle.std.specs.Prelude.{ℕ, ◌+◌, ◌-◌, ◌^◌, min, Bool, false, not, ◌||◌, List, [], ◌∷◌, Option, Some, None, option_and_then, option_map, if◌then◌else◌}
use Rattle.std.specs.FinMap as map
use Rattle.std.specs.List.{list_any}
use Rattle.std.specs.Str.{bytes_eq}
use Rattle.zot_digest.specs.ByteMap.{ByteMap}
use Rattle.zot_media.specs.Manifest.{empty_reading, stored_reading}
use Rattle.zot_media.specs.References.{refers}
use Rattle.zot_media.specs.declared.media.Media.{Media}
use Rattle.zot_media.specs.declared.reading.Reading.{Reading}
use Rattle.zot_media.specs.declared.reference.Reference.{Reference}
use Rattle.zot_media.specs.declared.reference.Reference.TheVariants as by
use Rattle.zot_model.specs.State.{RepoState, Stored, StoredManifest, StoredTag}

-- ---- what a repository's manifests say

-- what a manifest says, by the bytes that the repository has of it; one without bytes says nothing
abbrev pub reading_by : StoredManifest → Option Stored → Reading
reading_by manifest None = empty_reading
reading_by manifest (Some stored) = stored_reading manifest.media stored.bytes

-- what the manifest of a digest says
abbrev pub reading_at : RepoState → List ℕ → StoredManifest → Reading
reading_at repo digest manifest = reading_by manifest (map.get repo.blobs digest)

-- whether some manifest refers to a digest: by its config, a layer or a child
abbrev pub is_referred : RepoState → List ℕ → Bool
is_referred repo digest = list_any (λ entry. refers (reading_at repo entry.0 entry.1) digest) (map.entries repo.manifests)

-- whether a blob has to stay: it is a manifest, or some manifest refers to it
abbrev pub is_needed : RepoState → List ℕ → Bool
is_needed repo digest = map.contains_key repo.manifests digest || is_referred repo digest

-- the first of these digests that isn't there
abbrev pub first_missing : (List ℕ → Bool) → List (List ℕ) → Option (List ℕ)
first_missing is_there [] = None
first_missing is_there (digest ∷ digests) = if is_there digest then first_missing is_there digests else Some digest

-- ---- what a reference finds

-- a manifest that was found: its digest, its media and its bytes
pub record Found : Type 0 where
  pub digest : List ℕ
  pub media : Media
  pub bytes : List ℕ

-- the digest that a reference names: that of the tag's manifest, or the digest itself
abbrev pub digest_named_by : RepoState → Reference → Option (List ℕ)
digest_named_by repo (by.Tag tag) = option_map (λ stored. stored.digest) (map.get repo.tags tag)
digest_named_by repo (by.Digest digest) = Some digest

-- the manifest of a digest, where the repository has it and its bytes
abbrev pub manifest_at : RepoState → List ℕ → Option Found
manifest_at repo digest =
    option_and_then (λ (manifest : StoredManifest). option_map (λ (stored : Stored). record { digest = digest; media = manifest.media; bytes = stored.bytes }) (map.get repo.blobs digest))
    (map.get repo.manifests digest)

-- the manifest that a reference finds
abbrev pub manifest_of : RepoState → Reference → Option Found
manifest_of repo reference = option_and_then (manifest_at repo) (digest_named_by repo reference)

-- ---- what becomes of manifests and tags

-- the tag of a reference that is one
abbrev pub tag_in : Reference → Option (List ℕ)
tag_in (by.Tag tag) = Some tag
tag_in (by.Digest digest) = None

-- the tags with this one, if there is one, set to the manifest of a digest at the moment; it was never pulled
abbrev pub with_tag : ℕ → ByteMap StoredTag → Option (List ℕ) → List ℕ → ByteMap StoredTag
with_tag moment tags None digest = tags
with_tag moment tags (Some tag) digest = map.insert tags tag (record { digest = digest; pushed = moment; pulls = 0; pulled = 0 })

-- one pull more, up to the greatest number of 64 bits
abbrev pub one_more : ℕ → ℕ
one_more pulls = min (pulls + 1) (2 ^ 64 - 1)

-- a tag that was pulled at the moment
abbrev pub pulled_at : ℕ → StoredTag → StoredTag
pulled_at moment tag = record { digest = tag.digest; pushed = tag.pushed; pulls = one_more tag.pulls; pulled = moment }

-- the tags in which the one found under a name was pulled at the moment
abbrev pub with_pull : ℕ → ByteMap StoredTag → List ℕ → Option StoredTag → ByteMap StoredTag
with_pull moment tags name None = tags
with_pull moment tags name (Some tag) = map.insert tags name (pulled_at moment tag)

-- the tags after a pull by a reference
abbrev pub after_pull : ℕ → ByteMap StoredTag → Reference → ByteMap StoredTag
after_pull moment tags (by.Tag tag) = with_pull moment tags tag (map.get tags tag)
after_pull moment tags (by.Digest digest) = tags

-- whether a tag is one of a digest's manifest
abbrev pub is_tag_of : List ℕ → Option StoredTag → Bool
is_tag_of digest None = false
is_tag_of digest (Some tag) = bytes_eq tag.digest digest

-- the tags but those of a digest's manifest
abbrev pub without_tags_of : ByteMap StoredTag → List ℕ → ByteMap StoredTag
without_tags_of tags digest = map.retain_keys tags (λ tag. not (is_tag_of digest (map.get tags tag)))

-- Lists of referrers (OCI Distribution Specification 1.1, "Listing Referrers"): an image index of the manifests whose subject is a digest.
use Rattle.std.specs.Prelude.{ℕ, Bool, true, false, ◌&&◌, List, [], ◌∷◌, map, Option, Some, None, codes}
use Rattle.std.specs.List.{filter}
use Rattle.serde_json.specs.Data.{Data, Members, array, no_members, number, object, put, string, unsigned}
use Rattle.serde_json.specs.View.{items_of}
use Rattle.serde_json.specs.Written.{compact_text}
use Rattle.zot_digest.specs.Digest.{digest_text}
use Rattle.zot_media.specs.Manifest.{is_text}
use Rattle.zot_media.specs.Media.{media_text}
use Rattle.zot_media.specs.References.{artifact_type, subject_digest}
use Rattle.zot_media.specs.declared.annotation.Annotation.{Annotation}
use Rattle.zot_media.specs.declared.media.Media.{Media}
use Rattle.zot_media.specs.declared.media.Media.TheVariants.{Index}
use Rattle.zot_media.specs.declared.reading.Reading.{Reading}

-- a manifest of a repository: the digest of its bytes, how many they are, its media, and what it says
pub record Pushed : Type 0 where
  pub digest : List ℕ
  pub size : ℕ
  pub media : Media
  pub reading : Reading

-- whether a filter by an artifact type, if there is one, lets a manifest of that type pass
abbrev pub passes : Option (List ℕ) → Option (List ℕ) → Bool
passes None artifact = true
passes (Some wanted) artifact = is_text wanted artifact

-- whether a manifest says something of the one of this digest, and a filter lets it pass
abbrev pub is_listed : List ℕ → Option (List ℕ) → Reading → Bool
is_listed subject wanted reading = is_text subject (subject_digest reading.subject) && passes wanted (artifact_type reading)

-- what a list of referrers says of a manifest: its artifact type, if it has one, stands in the place of its own and of its config's media
pub record Referrer : Type 0 where
  pub digest : List ℕ
  pub size : ℕ
  pub media : Media
  pub artifact : Option (List ℕ)
  pub annotations : List Annotation

abbrev pub referrer_of : Pushed → Referrer
referrer_of pushed = record { digest = pushed.digest; size = pushed.size; media = pushed.media; artifact = artifact_type pushed.reading; annotations = pushed.reading.annotations }

-- an object's members, with these annotations
abbrev pub with_each : Members → List Annotation → Members
with_each members [] = members
with_each members (annotation ∷ annotations) = with_each (put annotation.key (string annotation.text) members) annotations

-- a descriptor's members, with the annotations, if there are some
abbrev pub with_annotations : List Annotation → Members → Members
with_annotations [] members = members
with_annotations (annotation ∷ annotations) members = put (codes "annotations") (object (with_each no_members (annotation ∷ annotations))) members

-- a descriptor's members, with the artifact type, if there is one
abbrev pub with_type : Option (List ℕ) → Members → Members
with_type None members = members
with_type (Some text) members = put (codes "artifactType") (string text) members

-- a descriptor's members that are always there
abbrev pub plain_members : List ℕ → Media → ℕ → Members
plain_members digest media size = put (codes "digest") (string (digest_text digest)) (put (codes "mediaType") (string (media_text media)) (put (codes "size") (number (unsigned size)) no_members))

-- the descriptor of a manifest in the list
unfoldable pub descriptor_value : Referrer → Data
descriptor_value referrer = object (with_annotations referrer.annotations (with_type referrer.artifact (plain_members referrer.digest referrer.media referrer.size)))

-- the index of these manifests
unfoldable pub referrers_value : List Referrer → Data
referrers_value referrers = object (
    put (codes "manifests") (array (items_of (map descriptor_value referrers))) (put (codes "mediaType") (string (media_text Index)) (put (codes "schemaVersion") (number (unsigned 2)) no_members)))

-- the manifests that say something of a digest and that a filter lets pass, in the order in which they are given
abbrev pub referrers_among : List Pushed → List ℕ → Option (List ℕ) → List Referrer
referrers_among manifests subject wanted = map referrer_of (filter (λ pushed. is_listed subject wanted pushed.reading) manifests)

-- the text of their list
unfoldable pub referrers_text : List Pushed → List ℕ → Option (List ℕ) → List ℕ
referrers_text manifests subject wanted = compact_text (referrers_value (referrers_among manifests subject wanted))

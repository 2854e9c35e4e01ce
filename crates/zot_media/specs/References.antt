-- What a manifest's reading refers to, and its artifact type (OCI Distribution Specification 1.1, "Pushing Manifests" and "Listing Referrers").
use Rattle.std.specs.Prelude.{ℕ, Bool, not, ◌||◌, List, [], ◌∷◌, map, Option, Some, None}
use Rattle.std.specs.List.{filter, list_any}
use Rattle.std.specs.Option.{option_or}
use Rattle.std.specs.Str.{bytes_eq}
use Rattle.zot_media.specs.declared.descriptor.Descriptor.{Descriptor}
use Rattle.zot_media.specs.declared.reading.Reading.{Reading}

-- the references that have to be there: the config, and the layers that aren't external
abbrev pub needed_of : List Descriptor → List Descriptor
needed_of [] = []
needed_of (config ∷ layers) = config ∷ filter (λ layer. not layer.external) layers

-- the digests that have to be there, in their order
unfoldable pub needed : Reading → List (List ℕ)
needed reading = map (λ descriptor. descriptor.digest) (needed_of reading.references)

-- whether a descriptor has the digest
abbrev pub has_digest : List ℕ → List Descriptor → Bool
has_digest digest = list_any (λ descriptor. bytes_eq descriptor.digest digest)

-- whether the manifest refers to the digest: by its config, a layer or a child
unfoldable pub refers : Reading → List ℕ → Bool
refers reading digest = has_digest digest reading.references || has_digest digest reading.children

-- the digest of the manifest that this one says something of
abbrev pub subject_digest : Option Descriptor → Option (List ℕ)
subject_digest None = None
subject_digest (Some subject) = Some subject.digest

-- the media of the first reference, which is an image's config
abbrev pub config_media : List Descriptor → Option (List ℕ)
config_media [] = None
config_media (config ∷ layers) = Some config.media

-- a text that isn't empty
abbrev pub own_type : Option (List ℕ) → Option (List ℕ)
own_type None = None
own_type (Some []) = None
own_type (Some (c ∷ text)) = Some (c ∷ text)

-- the artifact type for a list of referrers: the manifest's own where it isn't empty, else the media of an image's config
unfoldable pub artifact_type : Reading → Option (List ℕ)
artifact_type reading = option_or (own_type reading.artifact) (config_media reading.references)

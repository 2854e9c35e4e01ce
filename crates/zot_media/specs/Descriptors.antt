-- Descriptors (OCI Image Specification 1.1, "Content Descriptors"; Docker's image manifest, version 2, schema 2, has the
-- same fields). Fields that aren't named here are ignored.
use Rattle.std.specs.Prelude.{ℕ, ◌^◌, nat_lt, Bool, true, false, List, [], ◌∷◌, Option, Some, None, codes, is_some, if◌then◌else◌}
use Rattle.std.specs.List.{list_all}
use Rattle.serde_json.specs.Data.{Data}
use Rattle.serde_json.specs.Find.{as_str}
use Rattle.zot_digest.specs.Digest.{digest_named}
use Rattle.zot_media.specs.Fields.{◌>>=◌, each, list_of, text_of, whole_of}
use Rattle.zot_media.specs.declared.descriptor.Descriptor.{Descriptor}

-- the digest of the content
unfoldable pub digest_in : Data → Option (List ℕ)
digest_in value = text_of (codes "digest") value >>= digest_named

-- a size that 63 bits hold
abbrev pub size_within : ℕ → Option ℕ
size_within size = if nat_lt size (2 ^ 63) then Some size else None

-- how many bytes the content has
unfoldable pub size_in : Data → Option ℕ
size_in value = whole_of (codes "size") value >>= size_within

-- whether a list has an element
abbrev pub has_element : {A : Type 0} → List A → Bool
has_element [] = false
has_element (x ∷ xs) = true

-- the same of a list of texts
abbrev pub external_by : List Data → Option Bool
external_by urls = if list_all (λ url. is_some (as_str url)) urls then Some (has_element urls) else None

-- whether the content may be fetched elsewhere: `urls` has an element. It is missing, null or a list of texts
unfoldable pub external_in : Data → Option Bool
external_in value = list_of (codes "urls") value >>= external_by

-- the descriptor that a value is
unfoldable pub descriptor_of : Data → Option Descriptor
descriptor_of value = do
  media ← text_of (codes "mediaType") value
  digest ← digest_in value
  size ← size_in value
  external ← external_in value
  Some (record { media = media; digest = digest; size = size; external = external })

-- the descriptors of a field that is a list of them; a field that is missing or null counts as an empty one
unfoldable pub descriptors_of : List ℕ → Data → Option (List Descriptor)
descriptors_of name value = list_of name value >>= each descriptor_of

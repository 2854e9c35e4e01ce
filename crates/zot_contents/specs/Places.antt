-- Which paths of a store have the objects of digests: those of repositories, and the records.
use Rattle.std.specs.Prelude.{◌≡◌, ◌≢◌, ℕ, List, Option, None, Some, IfSome}
use Rattle.hex.specs.Hex.{encode_lower}
use Rattle.zot_digest.specs.Digest.{IsDigest}
use Rattle.zot_links.specs.Meaning.{object_path, record_path}
use Rattle.zot_names.specs.Name.{IsName}
use Rattle.zot_contents.specs.declared.places.Place.{Place}

-- the path of the object that a repository has under a digest, or of the digest's record, where no repository is named
abbrev pub path_of : List ℕ → Option (List ℕ) → List ℕ
path_of digest None = record_path digest
path_of digest (Some name) = object_path digest name

-- a path is that of such an object
pub record IsPlace (path digest : List ℕ) (name : Option (List ℕ)) : Type 0 where
  pub is_digest : IsDigest digest
  pub named : IfSome name IsName
  pub spelled : path ≡ path_of digest name

-- the object of a digest that has a path, or there is none
abbrev pub IsPlaceOf : List ℕ → Option Place → Type 0
IsPlaceOf path None = (digest : List ℕ) (name : Option (List ℕ)) → ¬ IsPlace path digest name
IsPlaceOf path (Some place) = IsPlace path place.digest place.name

-- the digest that has these digits, or there is none
abbrev pub IsDigestOf : List ℕ → Option (List ℕ) → Type 0
IsDigestOf digits None = (digest : List ℕ) → IsDigest digest → digits ≢ encode_lower digest
IsDigestOf digits (Some digest) = IsDigest digest × (digits ≡ encode_lower digest)

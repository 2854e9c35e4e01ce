-- Names of repositories (OCI Distribution Specification 1.1, "Pulling manifests"), on lists of bytes.
use Rattle.std.specs.Prelude.{◌≡◌, ℕ, ◌<◌, ◌≤◌, ◌&&◌, ◌||◌, ◌⊎◌, nat_le, ◌==◌, Bool, List, [], ◌∷◌, ◌++◌, length, codes}
use Rattle.std.specs.List.{AllByRecursion, AllPass, flat_map, join_with_byte, slice_split}

-- a lower-case letter or a digit
abbrev pub is_alphanumeric : ℕ → Bool
is_alphanumeric c = (nat_le 97 c && nat_le c 122) || (nat_le 48 c && nat_le c 57)

-- one or more lower-case letters and digits
pub record IsRun (text : List ℕ) : Type 0 where
  pub nonempty : 0 < length text
  pub bytes : AllPass is_alphanumeric text

-- one or more `-`
pub record AreDashes (text : List ℕ) : Type 0 where
  pub nonempty : 0 < length text
  pub bytes : AllPass (λ c. c == 45) text

-- what stands between two runs: `.`, `_`, `__`, or one or more `-`
abbrev pub IsSeparator : List ℕ → Type 0
IsSeparator text = (text ≡ codes ".") ⊎ ((text ≡ codes "_") ⊎ ((text ≡ codes "__") ⊎ AreDashes text))

-- a component: a run, and after it any number of separators, each with a run after it
pub record IsComponent (text : List ℕ) : Type 0 where
  pub first : List ℕ
  pub more : List (List ℕ × List ℕ)
  pub run : IsRun first
  pub joined : AllByRecursion (λ pair. IsSeparator pair.0 × IsRun pair.1) more
  pub spelled : text ≡ first ++ flat_map (λ pair. pair.0 ++ pair.1) more

-- these parts stand in a row among all parts
pub record StandInRow (row parts : List (List ℕ)) : Type 0 where
  pub before : List (List ℕ)
  pub after : List (List ℕ)
  pub spelled : parts ≡ before ++ (row ++ after)

-- no part is reserved: a repository's folder has these files and folders of its image layout (OCI Image Specification 1.1, "Image Layout"),
-- so no other repository's folder may be one of them. A rule of this project
pub record IsFree (parts : List (List ℕ)) : Type 0 where
  pub index : ¬ StandInRow (codes "index.json" ∷ []) parts
  pub layout : ¬ StandInRow (codes "oci-layout" ∷ []) parts
  pub sha256 : ¬ StandInRow (codes "blobs" ∷ codes "sha256" ∷ []) parts
  pub sha512 : ¬ StandInRow (codes "blobs" ∷ codes "sha512" ∷ []) parts

-- the byte between two components, `/`
abbrev pub slash : ℕ
slash = 47

-- a byte that a name may have: a lower-case letter, a digit, `.`, `_`, `-` or `/`
abbrev pub is_name_byte : ℕ → Bool
is_name_byte c = is_alphanumeric c || ((c == 46) || ((c == 95) || ((c == 45) || (c == slash))))

-- what stands between the slashes of a text, in a name its components
abbrev pub components_of : List ℕ → List (List ℕ)
components_of text = slice_split (λ c. c == slash) text

-- the name of a repository: one or more components joined by slashes, in at most 255 bytes, none of them reserved.
-- The limit is this project's
pub record IsName (text : List ℕ) : Type 0 where
  pub components : List (List ℕ)
  pub some : 0 < length components
  pub formed : AllByRecursion IsComponent components
  pub spelled : text ≡ join_with_byte slash components
  pub short : length text ≤ 255
  pub free : IsFree components

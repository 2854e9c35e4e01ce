-- What a folder's listing has, and what is found in it.
use Rattle.std.specs.Prelude.{◌≡◌, ◌≢◌, ℕ, ◌⊎◌, List, [], ◌∷◌, ◌++◌, All, Contains, Option, MatchOption}
use Rattle.std.specs.declared.cmp.Ordering.TheVariants.{Less}
use Rattle.zot_outside.specs.Objects.{path_cmp}

-- what the paths in a folder begin with; an empty path is the root's
abbrev pub front : List ℕ → List ℕ
front [] = []
front (b ∷ bs) = (b ∷ bs) ++ 47 ∷ []

-- the path of a name in a folder
abbrev pub child_path : List ℕ → List ℕ → List ℕ
child_path [] name = name
child_path (b ∷ bs) name = (b ∷ bs) ++ 47 ∷ name

-- a path is that of a name in a folder, with a slash after it or none
abbrev pub IsEntry : List ℕ → List ℕ → List ℕ → Type 0
IsEntry folder name path = (path ≡ child_path folder name) ⊎ (path ≡ child_path folder (name ++ 47 ∷ []))

-- a path is that of a file in a folder, or of a folder in it, which ends with a slash; its name is one part
pub record IsChild (folder path : List ℕ) : Type 0 where
  pub name : List ℕ
  pub plain : All (λ b. b ≢ 47) name
  pub named : name ≢ []
  pub entry : IsEntry folder name path

-- a path is that of a file: it doesn't end with a slash
abbrev pub IsFilePath : List ℕ → Type 0
IsFilePath path = (front : List ℕ) → path ≢ front ++ 47 ∷ []

-- a path is that of a file, and greater than another
pub record IsFileAbove (bound path : List ℕ) : Type 0 where
  pub above : path_cmp bound path ≡ Less
  pub file : IsFilePath path

-- a path is the least of these that is greater than a bound
pub record IsLeastAbove (paths : List (List ℕ)) (bound path : List ℕ) : Type 0 where
  pub listed : Contains paths path
  pub above : path_cmp bound path ≡ Less
  pub least : All (λ other. path_cmp bound other ≡ Less → path_cmp other path ≢ Less) paths

-- none of these paths is greater than a bound
abbrev pub NoneAbove : List (List ℕ) → List ℕ → Type 0
NoneAbove paths bound = All (λ other. path_cmp bound other ≢ Less) paths

-- the least of these paths that is greater than a bound was found, or there is none
abbrev pub FindsAbove : List (List ℕ) → List ℕ → Option (List ℕ) → Type 0
FindsAbove paths bound found = MatchOption found (NoneAbove paths bound) (λ path. IsLeastAbove paths bound path)

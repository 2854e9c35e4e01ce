-- Where a search for the next path stands, and what the listings of a walk show, where the objects are told.
use Rattle.std.specs.Prelude.{◌≡◌, ◌≢◌, ℕ, ◌⊎◌, Bool, true, false, ◌&&◌, eqb, List, [], ◌∷◌, ◌++◌, All, Contains, IsSome}
use Rattle.std.specs.FinMap as map
use Rattle.std.specs.declared.cmp.Ordering.TheVariants.{Greater, Less}
use Rattle.zot_folder.specs.Listing.{IsFilePath, front}
use Rattle.zot_folder.specs.Paths.{is_object_path}
use Rattle.zot_outside.specs.Objects.{Objects, path_cmp}

-- a list of bytes begins another
abbrev pub is_prefix : List ℕ → List ℕ → Bool
is_prefix [] q = true
is_prefix (b ∷ p) [] = false
is_prefix (b ∷ p) (c ∷ q) = eqb b c && is_prefix p q

-- a path is that of a folder that lies in another one
pub record IsFolderIn (folder entry : List ℕ) : Type 0 where
  pub name : List ℕ
  pub plain : All (λ b. b ≢ 47) name
  pub named : name ≢ []
  pub entry_is : entry ≡ front folder ++ (name ++ 47 ∷ [])

-- an entry of a folder covers a path: it is the path's own, or that of a folder on the way to it
abbrev pub Covers : List ℕ → List ℕ → List ℕ → Type 0
Covers folder entry path = (entry ≡ path) ⊎ (IsFolderIn folder entry × (is_prefix entry path ≡ true))

-- what a listing shows of a folder: each file is an object, and each object below the folder has its entry
pub record IsListing (objects : Objects) (folder : List ℕ) (paths : List (List ℕ)) : Type 0 where
  pub files : (path : List ℕ) → Contains paths path → IsFilePath path → IsSome (map.get objects path)
  pub shows : (path : List ℕ) → IsSome (map.get objects path) → is_prefix (front folder) path ≡ true → (entry : List ℕ) × Contains paths entry × Covers folder entry path

-- the paths of a listing stand in its folder
abbrev pub StandIn : List ℕ → List (List ℕ) → Type 0
StandIn folder paths = All (λ path. (is_prefix (front folder) path ≡ true) × (path ≢ 47 ∷ [])) paths

-- each file that is listed and is greater than a path is an object
abbrev pub ListsFiles : Objects → List ℕ → List (List ℕ) → Type 0
ListsFiles objects since paths = (path : List ℕ) → Contains paths path → IsFilePath path → path_cmp since path ≡ Less → IsSome (map.get objects path)

-- for each object below the folder that is greater than a path, not every entry fails to cover it
abbrev pub ListsAll : Objects → List ℕ → List ℕ → List (List ℕ) → Type 0
ListsAll objects since folder paths =
    (path : List ℕ) → IsSome (map.get objects path) → path_cmp since path ≡ Less → is_prefix (front folder) path ≡ true → ((entry : List ℕ) → Contains paths entry → Covers folder entry path → ⊥) → ⊥

-- what a listing that a walk holds shows of the objects that are greater than a path
abbrev pub ShowsAfter : Objects → List ℕ → List ℕ → List (List ℕ) → Type 0
ShowsAfter objects since folder paths = StandIn folder paths × ListsFiles objects since paths × ListsAll objects since folder paths

-- what stands before the last slash of a path, or nothing
abbrev pub IsFolderOf : List ℕ → List ℕ → Type 0
IsFolderOf path folder = (last : List ℕ) × All (λ b. b ≢ 47) last × ((path ≡ front folder ++ last) ⊎ ((folder ≡ []) × (path ≡ 47 ∷ last)))

-- a path lies ahead of a search: in the folder that it looks in, behind the bound with each entry that covers it, or to the right of the folder
abbrev pub IsAhead : List ℕ → List ℕ → List ℕ → Type 0
IsAhead folder bound path =
    ((is_prefix (front folder) path ≡ true) × ((entry : List ℕ) → Covers folder entry path → path_cmp bound entry ≡ Less)) ⊎ ((is_prefix (front folder) path ≡ false) × (path_cmp bound path ≡ Less))

-- where a search for the path after one stands: each object after that one lies ahead
pub record Searches (objects : Objects) (after folder bound : List ℕ) : Type 0 where
  pub named : (path : List ℕ) → IsSome (map.get objects path) → is_object_path path ≡ true
  pub begun : path_cmp after bound ≢ Greater
  pub inside : is_prefix (front folder) bound ≡ true
  pub ahead : (path : List ℕ) → IsSome (map.get objects path) → path_cmp after path ≡ Less → IsAhead folder bound path

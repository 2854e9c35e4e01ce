-- Which paths a folder keeps objects under.
use Rattle.std.specs.Prelude.{◌≡◌, ◌≢◌, ◌⊎◌, ℕ, Bool, not, ◌&&◌, ◌==◌, nat_lt, All, List, [], ◌∷◌, ◌++◌, length, slice_index}
use Rattle.std.specs.List.{list_all, list_any, slice_split}

-- a part of such a path has a first byte, which isn't a dot, and no NUL
abbrev pub is_part : List ℕ → Bool
is_part part = nat_lt 0 (length part) && not (slice_index part 0 == 46) && not (list_any (λ b. b == 0) part)

-- such a path is parts, joined by slashes
abbrev pub is_object_path : List ℕ → Bool
is_object_path path = list_all is_part (slice_split (λ b. b == 47) path)

-- the folder of the system that a path lies in: what stands before its last slash, the whole system's, or that of the program
abbrev pub IsParentOf : List ℕ → List ℕ → Type 0
IsParentOf path parent =
    (last : List ℕ) × All (λ b. b ≢ 47) last × (((path ≡ parent ++ 47 ∷ last) × (parent ≢ [])) ⊎ ((path ≡ 47 ∷ last) × (parent ≡ 47 ∷ [])) ⊎ ((path ≡ last) × (parent ≡ 46 ∷ [])))

-- a path lies in the folder of another, and its last part begins with a dot
abbrev pub IsHiddenBeside : List ℕ → List ℕ → Type 0
IsHiddenBeside path hidden =
    (last name : List ℕ) × All (λ b. b ≢ 47) last × (((folder : List ℕ) × (path ≡ folder ++ 47 ∷ last) × (hidden ≡ folder ++ 47 ∷ 46 ∷ name)) ⊎ ((path ≡ last) × (hidden ≡ 46 ∷ name)))

-- Marks of the manifests that stay, as the code has them. The contracts for other crates say `IsLeast`.
use Rattle.std.specs.Prelude.{◌≡◌, ◌⊎◌, ℕ, ◌+◌, Bool, true, false, List, map, length, slice_get, slice_index_or, Some}
use Rattle.std.specs.List.{Contains, count_by}
use Rattle.zot_model.specs.Retire.{IsLeast}
use Rattle.zot_model.specs.declared.manifest_row.ManifestRow.{ManifestRow}
use Rattle.zot_collect.specs.declared.staying.Staying.{Staying}

-- P holds of the manifest at a place
abbrev pub HoldsThere : (ManifestRow → Type 0) → List ManifestRow → ℕ → Type 0
HoldsThere P rows place = (row : ManifestRow) × (slice_get rows place ≡ Some row) × P row

-- the manifest at a place has a mark
abbrev pub IsMarked : List Bool → ℕ → Type 0
IsMarked marks place = slice_index_or marks place false ≡ true

-- each manifest of which P holds has a mark
abbrev pub AllMarked : (ManifestRow → Type 0) → List ManifestRow → List Bool → Type 0
AllMarked P rows marks = (place : ℕ) (row : ManifestRow) → slice_get rows place ≡ Some row → P row → IsMarked marks place

abbrev pub count_marks : List Bool → ℕ
count_marks marks = count_by (λ mark. mark) marks

-- some places more have a mark, and P holds of them; all of them wait, and nothing else does
pub record Grows (P : ℕ → Type 0) (old new : Staying) : Type 0 where
  pub long : length new.marks.items ≡ length old.marks.items
  pub keeps : (place : ℕ) → IsMarked old.marks.items place → IsMarked new.marks.items place
  pub waits : (place : ℕ) → Contains old.waiting.items place → Contains new.waiting.items place
  pub only : (place : ℕ) → IsMarked new.marks.items place → IsMarked old.marks.items place ⊎ (P place × Contains new.waiting.items place)
  pub marked : (place : ℕ) → Contains new.waiting.items place → Contains old.waiting.items place ⊎ IsMarked new.marks.items place
  pub count : length new.waiting.items + count_marks old.marks.items ≡ length old.waiting.items + count_marks new.marks.items

-- the manifests of which P holds, and no others, have a mark beside those that had one
pub record Spreads (P : ManifestRow → Type 0) (rows : List ManifestRow) (old new : Staying) : Type 0 where
  pub grows : Grows (HoldsThere P rows) old new
  pub all : AllMarked P rows new.marks.items

-- each manifest has a mark or none, and just those with one wait
pub record IsReady (rows : List ManifestRow) (state : Staying) : Type 0 where
  pub long : length state.marks.items ≡ length rows
  pub waits : (place : ℕ) → IsMarked state.marks.items place → Contains state.waiting.items place
  pub marked : (place : ℕ) → Contains state.waiting.items place → IsMarked state.marks.items place
  pub count : length state.waiting.items ≡ count_marks state.marks.items

-- just the manifests that stay by themselves have a mark
pub record AreRoots (root : ManifestRow → Bool) (rows : List ManifestRow) (marks : List Bool) : Type 0 where
  pub all : AllMarked (λ row. root row ≡ true) rows marks
  pub only : (place : ℕ) → IsMarked marks place → HoldsThere (λ row. root row ≡ true) rows place

-- the marks are those of the least set
pub record AreLeast (root : ManifestRow → Bool) (rows : List ManifestRow) (marks : List Bool) : Type 0 where
  pub chosen : List ℕ → Bool
  pub least : IsLeast root rows chosen
  pub each : marks ≡ map (λ row. chosen row.digest) rows

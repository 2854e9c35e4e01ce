-- What sources and sinks say of their bytes, where they tell them.
use Rattle.std.specs.Prelude.{◌≡◌, ℕ, ◌<◌, ◌≤◌, List, [], ◌++◌, length, take, ⊤, Option, Some, None, IfSome}

-- these bytes were taken from the front of what was left, where that is told
abbrev pub Takes : Option (List ℕ) → List ℕ → Option (List ℕ) → Type 0
Takes None taken after = ⊤
Takes (Some left) taken after = (rest : List ℕ) × (left ≡ taken ++ rest) × (after ≡ Some rest)

-- these bytes were added at the end of what was written, where that is told
abbrev pub Appends : Option (List ℕ) → List ℕ → Option (List ℕ) → Type 0
Appends None piece after = ⊤
Appends (Some held) piece after = after ≡ Some (held ++ piece)

-- nothing is left, where that is told
abbrev pub IsOver : Option (List ℕ) → Type 0
IsOver left = IfSome left (λ bytes. bytes ≡ [])

-- n bytes were read into the front of a buffer
pub record Reads (before : Option (List ℕ)) (room : ℕ) (buffer : List ℕ) (n : ℕ) (after : Option (List ℕ)) : Type 0 where
  pub within : n ≤ room
  pub taken : Takes before (take n buffer) after
  pub over : n ≡ 0 → 0 < room → IsOver after

-- the first n bytes of a piece were written
pub record Writes (before : Option (List ℕ)) (piece : List ℕ) (n : ℕ) (after : Option (List ℕ)) : Type 0 where
  pub within : n ≤ length piece
  pub appended : Appends before (take n piece) after
  pub progress : 0 < length piece → 0 < n

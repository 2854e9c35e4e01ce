-- The parts that a host hands out and takes back, where it tells them, and the room for those that it takes back.
use Rattle.std.specs.Prelude.{◌≡◌, ℕ, ◌+◌, List, ◌++◌, Option, option_map}

-- these parts were the first of those that were left, in their order, and the others are left
abbrev pub HandsOut : {S : Type 0} → Option (List S) → List S → Option (List S) → Type 0
HandsOut before parts after = before ≡ option_map (λ left. parts ++ left) after

-- these parts were put behind those that were kept, in their order
abbrev pub TakesBack : {S : Type 0} → Option (List S) → List S → Option (List S) → Type 0
TakesBack before parts after = after ≡ option_map (λ kept. kept ++ parts) before

-- no room was lost
abbrev pub KeepsRoom : (ℕ → Type 0) → (ℕ → Type 0) → Type 0
KeepsRoom before after = (n : ℕ) → before n → after n

-- there is room for so many parts more
abbrev pub HasMoreRoom : (ℕ → Type 0) → ℕ → (ℕ → Type 0) → Type 0
HasMoreRoom before many after = (n : ℕ) → before n → after (n + many)

-- so much room was used
abbrev pub UsesRoom : (ℕ → Type 0) → ℕ → (ℕ → Type 0) → Type 0
UsesRoom before many after = (n : ℕ) → before (n + many) → after n

-- The turns at a shared value. A turn is a seat's number with the entries of that turn.
use Rattle.std.specs.Prelude.{◌==◌, ℕ, List}
use Rattle.std.specs.List.{filter, flat_map}
use Rattle.zot_history.specs.History.{signed}

-- the history of these turns: their entries in order, each with its number
abbrev pub history : {E : Type 0} → List (ℕ × List E) → List (ℕ × E)
history turns = flat_map (λ t. signed t.0 t.1) turns

-- the turns of the number n, in order
abbrev pub turns_of : {E : Type 0} → ℕ → List (ℕ × List E) → List (ℕ × List E)
turns_of n turns = filter (λ t. t.0 == n) turns

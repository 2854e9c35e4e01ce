-- Objects that are given one by one.
use Rattle.std.specs.Prelude.{ℕ, List, reverse}
use Rattle.std.specs.FinMap as map
use Rattle.zot_outside.specs.Objects.{Objects}

-- the objects that paths with their bytes make; of those with one path the last counts
abbrev pub objects_of : List (List ℕ × List ℕ) → Objects
objects_of given = map.from_entries (reverse given)

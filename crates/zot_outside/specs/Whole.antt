-- What is known of a whole object, where the store tells its objects.
use Rattle.std.specs.Prelude.{ℕ, ◌≤◌, List, length, Option, IfSome, IsSomeAnd}
use Rattle.std.specs.FinMap as map
use Rattle.zot_outside.specs.Objects.{Objects}

-- the path has an object, and this is a fact of its bytes, where that is told
abbrev pub HasObject : Option Objects → List ℕ → (List ℕ → Type 0) → Type 0
HasObject objects path P = IfSome objects (λ told. IsSomeAnd (map.get told path) P)

-- the path's object reaches at least to a place
abbrev pub Reaches : Option Objects → List ℕ → ℕ → Type 0
Reaches objects path end = HasObject objects path (λ bytes. end ≤ length bytes)

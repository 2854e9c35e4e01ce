-- What a clock says of its moments, where it tells them.
use Rattle.std.specs.Prelude.{◌≡◌, ℕ, Option, Some, IfSome}

-- a moment is the one that a clock tells, if it tells one
abbrev pub IsAt : Option ℕ → ℕ → Type 0
IsAt told moment = IfSome told (λ m. moment ≡ m)

-- a clock that told its moment still tells that one
abbrev pub StaysAt : Option ℕ → Option ℕ → Type 0
StaysAt told later = IfSome told (λ m. later ≡ Some m)

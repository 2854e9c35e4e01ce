-- Ages, in seconds.
use Rattle.std.specs.Prelude.{ℕ, ◌+◌, nat_le, Bool}

-- whether what arrived then is at least so many seconds old at the moment. What arrives later than the moment has no age
abbrev pub is_aged : ℕ → ℕ → ℕ → Bool
is_aged moment delay arrived = nat_le (arrived + delay) moment

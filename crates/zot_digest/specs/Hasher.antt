-- What a hasher has taken.
use Rattle.std.specs.Prelude.{ℕ, List}
use Rattle.sha2.specs.Hashers.{Holds256}
use Rattle.zot_digest.specs.declared.hasher.Hasher.{Hasher}

-- the pieces that the hasher has taken so far are these bytes, joined
abbrev pub HasTaken : Hasher → List ℕ → Type 0
HasTaken hasher taken = Holds256 hasher.state taken

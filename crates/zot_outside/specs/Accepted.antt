-- What a listener found.
use Rattle.std.specs.Prelude.{◌≡◌, ℕ, ⊤}
use Rattle.zot_outside.specs.declared.sockets.accepted.Accepted.{Accepted}
use Rattle.zot_outside.specs.declared.sockets.accepted.Accepted.TheVariants.{Stream, Quiet}

-- a fact for the member of a connection, where there is one
abbrev pub IfStream : {C K : Type 0} → Accepted C K → (ℕ → Type 0) → Type 0
IfStream (Stream member source sink) P = P member
IfStream Quiet P = ⊤

-- a connection to the member of this number was found
abbrev pub IsStream : {C K : Type 0} → Accepted C K → ℕ → Type 0
IsStream (Stream member source sink) wanted = member ≡ wanted
IsStream Quiet wanted = ⊥

-- Counts of faults of peers.
use Rattle.std.specs.Prelude.{◌≡◌, ℕ, ◌≤◌, ⊤, Result, Ok, Err}
use Rattle.zot_outside.specs.Faults.{Rose}
use Rattle.zot_proxy.specs.declared.peer_error.PeerError.{PeerError}
use Rattle.zot_proxy.specs.declared.peer_error.PeerError.TheVariants.{Failed, NoMemory}

-- a fact for an ask that failed
abbrev pub OnPeerFailed : {T : Type 0} → Result T PeerError → Type 0 → Type 0
OnPeerFailed (Ok x) P = ⊤
OnPeerFailed (Err Failed) P = P
OnPeerFailed (Err NoMemory) P = ⊤

-- a fact for every other answer
abbrev pub UnlessPeerFailed : {T : Type 0} → Result T PeerError → Type 0 → Type 0
UnlessPeerFailed (Ok x) P = P
UnlessPeerFailed (Err Failed) P = ⊤
UnlessPeerFailed (Err NoMemory) P = P

-- the count of faults never falls, rose where the ask failed, and stays where it didn't
pub record HasPeerCause {T : Type 0} (before after : ℕ) (result : Result T PeerError) : Type 0 where
  pub later : before ≤ after
  pub failed : OnPeerFailed result (Rose before after)
  pub kept : UnlessPeerFailed result (after ≡ before)

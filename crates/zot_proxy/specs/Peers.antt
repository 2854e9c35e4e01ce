-- What is lent to an ask, and what peers in memory answer.
use Rattle.std.specs.Prelude.{◌≡◌, ◌+◌, ◌-◌, ◌^◌, ◌==◌, ◌⊎◌, ℕ, Bool, true, false, List, [], ◌∷◌, ◌++◌, length, count_by, min, Option, Some, None, Result, Ok, Err, is_err}
use Rattle.std.specs.List.{list_any}
use Rattle.zot_model.specs.declared.reply.Reply.{Reply}
use Rattle.zot_model.specs.declared.request.Request.{Request}
use Rattle.zot_model.specs.Fits.{Fits}
use Rattle.zot_proxy.specs.declared.asked.Asked.{Asked}
use Rattle.zot_proxy.specs.declared.peer_error.PeerError.{PeerError}
use Rattle.zot_proxy.specs.declared.peer_error.PeerError.TheVariants.{Failed, NoMemory}

-- what is lent to an ask: the scratch store, the upstream and the clock
pub record Outside (S U T : Type 0) : Type 0 where
  pub scratch : S
  pub upstream : U
  pub clock : T

-- these three
abbrev pub outside : {S U T : Type 0} → S → U → T → Outside S U T
outside scratch upstream clock = record { scratch = scratch; upstream = upstream; clock = clock }

-- ---- peers in memory

-- the numbers, from 1, of the asks that are to fail; the replies that weren't given yet, in order; and what was asked, the last ask last
pub record Script : Type 0 where
  pub failing : List ℕ
  pub left : List Reply
  pub asked : List Asked

-- the number of the next ask, from 1; it stops at 2^64 - 1
abbrev pub next_number : Script → ℕ
next_number script = min (length script.asked + 1) (2 ^ 64 - 1)

-- whether the next ask is to fail: its number stands in the list
abbrev pub is_listed : Script → Bool
is_listed script = list_any (λ n. n == next_number script) script.failing

-- the next reply is there and fits a request
abbrev pub FitsNext : List Reply → Request → Type 0
FitsNext [] request = ⊥
FitsNext (reply ∷ replies) request = Fits request reply

-- the next ask gives this reply to a request: the next one that is left, where the ask isn't listed and the reply fits; or none, where either isn't so
abbrev pub IsNext : Script → Request → Option Reply → Type 0
IsNext script request None = (is_listed script ≡ true) ⊎ ¬ FitsNext script.left request
IsNext script request (Some reply) = (is_listed script ≡ false) × Fits request reply × ((rest : List Reply) × (script.left ≡ reply ∷ rest))

-- how many of these asks failed
abbrev pub failures : List Asked → ℕ
failures asked = count_by (λ ask. is_err ask.result) asked

-- An ask is answered with the next reply, which is left no more. It failed only where there is none, and then what is
-- left stays, as it does where memory ran out.
abbrev pub Answers : Script → Request → Result Reply PeerError → List Reply → Type 0
Answers script request (Ok reply) left = (is_listed script ≡ false) × Fits request reply × (script.left ≡ reply ∷ left)
Answers script request (Err Failed) left = IsNext script request None × (left ≡ script.left)
Answers script request (Err NoMemory) left = left ≡ script.left

-- the list of what was asked with an ask more
abbrev pub with_ask : List Asked → ℕ → Request → Result Reply PeerError → List Asked
with_ask asked member request result = asked ++ (record { member = member; request = request; result = result }) ∷ []

-- the list of what was asked has grown by this ask, also by a failed one; where memory ran out it stays
abbrev pub Records : List Asked → ℕ → Request → Result Reply PeerError → List Asked → Type 0
Records before member request (Ok reply) after = after ≡ with_ask before member request (Ok reply)
Records before member request (Err Failed) after = after ≡ with_ask before member request (Err Failed)
Records before member request (Err NoMemory) after = after ≡ before

-- what an ask of a peer in memory does: what is lent to it stays
pub record Gives {S U T : Type 0} (old : Script) (before : Outside S U T) (member : ℕ) (request : Request) (result : Result Reply PeerError) (new : Script) (after : Outside S U T) : Type 0 where
  pub answers : Answers old request result new.left
  pub records : Records old.asked member request result new.asked
  pub failing : new.failing ≡ old.failing
  pub lent : after ≡ before

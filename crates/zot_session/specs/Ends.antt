-- The end that the bytes of a connection give it, where nothing fails and memory suffices.
use Rattle.std.specs.Prelude.{◌≡◌, ℕ, nat_le, Bool, true, false, List, [], ◌∷◌, length, take, ◌⊎◌}
use Rattle.zot_head.specs.Front.{Refusal}
use Rattle.zot_session.specs.declared.cut.Cut.TheVariants as cuts
use Rattle.zot_session.specs.declared.end.End.{End}
use Rattle.zot_session.specs.declared.end.End.TheVariants as ends
use Rattle.zot_session.specs.Cuts.{budget, end_of}
use Rattle.zot_session.specs.Messages.{IsPartial, IsRefused, Message, Stands, refusal_status}

-- the end where less than a message is left: by whether the connection brings all that it may
abbrev pub end_over : Bool → List ℕ → End
end_over true rest = end_of cuts.Full rest
end_over false rest = end_of cuts.Over rest

-- a connection ends so at these bytes, of which these are the messages that it still has: after them, or with the last of them, which asks to close it
abbrev pub EndsAt : Bool → List ℕ → List Message → End → Type 0
EndsAt full bytes [] end = ((why : Refusal) × IsRefused bytes why × (end ≡ ends.Refused (refusal_status why))) ⊎ (IsPartial bytes × (end ≡ end_over full bytes))
EndsAt full bytes (message ∷ messages) end = (rest : List ℕ) × Stands bytes message rest
    × (((message.head.closes ≡ true) × (messages ≡ []) × (end ≡ ends.Closed)) ⊎ ((message.head.closes ≡ false) × EndsAt full rest messages end))

-- a connection that brings these bytes ends so: of as many of them as it may bring
pub record EndsAs (bytes : List ℕ) (end : End) : Type 0 where
  pub messages : List Message
  pub ends_at : EndsAt (nat_le budget (length bytes)) (take budget bytes) messages end

-- the end has another cause than the bytes: the source, the sink or memory failed
abbrev pub HasFailed : End → Type 0
HasFailed end = (end ≡ ends.ReadFault) ⊎ ((end ≡ ends.WriteFault) ⊎ (end ≡ ends.NoMemory))

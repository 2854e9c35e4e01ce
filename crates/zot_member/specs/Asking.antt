-- What a member answers to a request that came to it.
use Rattle.std.specs.Prelude.{◌≡◌, ℕ, true, Option, Result, Ok, Err}
use Rattle.zot_model.specs.Refusals.{no_memory, peer_fault}
use Rattle.zot_model.specs.declared.reply.Reply.{Reply}
use Rattle.zot_model.specs.declared.request.Request.{Request}
use Rattle.zot_outside.specs.declared.stores.store.Store.{Ghosts}
use Rattle.zot_proxy.specs.declared.peer_error.PeerError.{PeerError}
use Rattle.zot_proxy.specs.declared.peer_error.PeerError.TheVariants as failures
use Rattle.zot_rows.specs.declared.rows.Rows.{Rows}
use Rattle.zot_spell.specs.Wire.{with_hop}
use Rattle.zot_member.specs.Answering.{AnswersAlone}
use Rattle.zot_member.specs.declared.place.Place.{Place}
use Rattle.zot_member.specs.declared.place.Place.TheVariants as places

-- the reply for what an ask of a peer gives
abbrev pub reply_for : Result Reply PeerError → Reply
reply_for (Ok reply) = reply
reply_for (Err failures.Failed) = peer_fault
reply_for (Err failures.NoMemory) = no_memory

-- a member was asked the request with its hop, once, and the reply is for what it gave. What the ask gave, by the peers' relation, and why it failed are facts that are handed in
pub record AsksOnce (member : ℕ) (request : Request) (reply : Reply) (Gives : ℕ → Request → Result Reply PeerError → Type 0) (HasCause : Result Reply PeerError → Type 0) : Type 0 where
  pub result : Result Reply PeerError
  pub gives : Gives member (with_hop request true) result
  pub cause : HasCause result
  pub reply_is : reply ≡ reply_for result

-- A request at such a place is answered so. On another member's repository, by one ask of its owner, and the rows stay. Else by the rows, or without them, and what is lent to an ask stays
abbrev pub Answers : {S : Type 0} {G : Ghosts S} → Place → Rows S G → Option ℕ → Request → Reply → Rows S G → (ℕ → Request → Result Reply PeerError → Type 0) → (Result Reply PeerError → Type 0) → Type 0 → Type 0
Answers places.Base old told request reply new Gives HasCause PeersStay = AnswersAlone places.Base old told request reply new × PeersStay
Answers places.Own old told request reply new Gives HasCause PeersStay = AnswersAlone places.Own old told request reply new × PeersStay
Answers places.Refused old told request reply new Gives HasCause PeersStay = AnswersAlone places.Refused old told request reply new × PeersStay
Answers (places.Foreign owner) old told request reply new Gives HasCause PeersStay = AsksOnce owner request reply Gives HasCause × (new ≡ old)

-- What the members of one process give each other, and what a request at any of them does to all rows.
use Rattle.std.specs.Prelude.{◌≡◌, ◌⊎◌, ℕ, true, Option, Result, Ok, Err}
use Rattle.zot_model.specs.Calls.{is_head}
use Rattle.zot_model.specs.Refusals.{hop_refused, no_memory}
use Rattle.zot_model.specs.declared.reply.Reply.{Reply}
use Rattle.zot_model.specs.declared.reply.Reply.TheVariants.{Base}
use Rattle.zot_model.specs.declared.request.Request.{Request}
use Rattle.zot_outside.specs.declared.stores.store.Store.{Ghosts}
use Rattle.zot_proxy.specs.declared.peer_error.PeerError.{PeerError}
use Rattle.zot_proxy.specs.declared.peer_error.PeerError.TheVariants as failures
use Rattle.zot_rows.specs.declared.rows.Rows.{Rows}
use Rattle.zot_spell.specs.Alike.{AreAlike}
use Rattle.zot_spell.specs.Wire.{with_hop}
use Rattle.zot_member.specs.Answering.{AnswersAlone, AnswersIn}
use Rattle.zot_member.specs.Places.{place_by}
use Rattle.zot_member.specs.declared.place.Place.{Place}
use Rattle.zot_member.specs.declared.place.Place.TheVariants as places

-- a member answered a request, and this reply is equal to its answer up to its spelling
pub record CarriesBack {S : Type 0} {G : Ghosts S} (place : Place) (old : Rows S G) (told : Option ℕ) (request : Request) (reply : Reply) (new : Rows S G) : Type 0 where
  pub answer : Reply
  pub alone : AnswersAlone place old told request answer new
  pub alike : AreAlike (is_head request.call) answer reply

-- memory ran out: before the member answered, or after it, and then its reply was lost
pub record Loses {S : Type 0} {G : Ghosts S} (place : Place) (old : Rows S G) (told : Option ℕ) (request : Request) (new : Rows S G) : Type 0 where
  pub lost : (new ≡ old) ⊎ ((answer : Reply) × AnswersAlone place old told request answer new)

-- what an ask of a member at this place gives: it never fails but for want of memory
abbrev pub GivesAt : {S : Type 0} {G : Ghosts S} → Place → Rows S G → Option ℕ → Request → Result Reply PeerError → Rows S G → Type 0
GivesAt place old told request (Ok reply) new = CarriesBack place old told request reply new
GivesAt place old told request (Err failures.Failed) new = ⊥
GivesAt place old told request (Err failures.NoMemory) new = Loses place old told request new

-- the same of the member with this number
abbrev pub GivesAmong : {S : Type 0} {G : Ghosts S} → Rows S G → Option ℕ → ℕ → Request → Result Reply PeerError → Rows S G → Type 0
GivesAmong old told member request result new = GivesAt (place_by old.config member request) old told request result new

-- a request on a repository was handed on to the member that owns it, whose row answered it: the reply is equal to that answer up to its spelling; or memory ran out on the way there or back
abbrev pub HandsOn : {S : Type 0} {G : Ghosts S} → Rows S G → Option ℕ → Request → Reply → Rows S G → Type 0
HandsOn old told request reply new =
    CarriesBack places.Own old told (with_hop request true) reply new ⊎ ((reply ≡ no_memory) × Loses places.Own old told (with_hop request true) new)

-- what a request at such a place does to all rows, and its reply
abbrev pub MakesAt : {S : Type 0} {G : Ghosts S} → Place → Rows S G → Option ℕ → Request → Reply → Rows S G → Type 0
MakesAt places.Base old told request reply new = (reply ≡ Base) × (new ≡ old)
MakesAt places.Own old told request reply new = AnswersIn old told request reply new
MakesAt places.Refused old told request reply new = (reply ≡ hop_refused) × (new ≡ old)
MakesAt (places.Foreign owner) old told request reply new = HandsOn old told request reply new

-- what a request does that came to the member with this number
abbrev pub Makes : {S : Type 0} {G : Ghosts S} → Rows S G → Option ℕ → ℕ → Request → Reply → Rows S G → Type 0
Makes old told member request reply new = MakesAt (place_by old.config member request) old told request reply new

-- What a member replies that asked the owner.
use Rattle.std.proofs.Common.{◌≡◌, inl, inr, ℕ, true, Option, Result, Ok, Err, sym, subst}
use Rattle.zot_model.specs.declared.reply.Reply.{Reply}
use Rattle.zot_model.specs.declared.request.Request.{Request}
use Rattle.zot_outside.specs.declared.stores.store.Store.{Ghosts}
use Rattle.zot_proxy.specs.declared.peer_error.PeerError.{PeerError}
use Rattle.zot_proxy.specs.declared.peer_error.PeerError.TheVariants as failures
use Rattle.zot_rows.specs.declared.rows.Rows.{Rows}
use Rattle.zot_spell.specs.Wire.{with_hop}
use Rattle.zot_member.specs.Asking.{reply_for}
use Rattle.zot_member.specs.Neighbours.{CarriesBack, GivesAt, HandsOn}
use Rattle.zot_member.specs.declared.place.Place.TheVariants as places

module _ {S : Type 0} {G : Ghosts S} (old new : Rows S G) (told : Option ℕ) (request : Request) (reply : Reply) where
  -- what the owner gave, by which the reply is
  pub handed : (given : Result Reply PeerError) → GivesAt places.Own old told (with_hop request true) given new → reply ≡ reply_for given → HandsOn old told request reply new
  handed (Ok answer) gives is = inl (subst (λ (r : Reply). CarriesBack places.Own old told (with_hop request true) r new) (sym is) gives)
  handed (Err failures.Failed) gives is = absurd gives
  handed (Err failures.NoMemory) gives is = inr (is, gives)

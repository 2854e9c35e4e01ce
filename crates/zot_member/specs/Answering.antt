-- What the rows of a cluster answer to a request at a moment of a clock, and what a member answers that asks no other one.
use Rattle.std.specs.Prelude.{◌≡◌, ℕ, List, Option, IfSome}
use Rattle.zot_model.specs.Refusals.{hop_refused}
use Rattle.zot_model.specs.declared.reply.Reply.{Reply}
use Rattle.zot_model.specs.declared.reply.Reply.TheVariants.{Base}
use Rattle.zot_model.specs.declared.request.Request.{Request}
use Rattle.zot_model.specs.declared.row.RowCall.TheVariants.{Ask}
use Rattle.zot_model.specs.declared.row.RowReply.TheVariants as answers
use Rattle.zot_outside.specs.Moments.{IsAt}
use Rattle.zot_outside.specs.declared.stores.store.Store.{Ghosts}
use Rattle.zot_pool.specs.Pools.{AreDeduped, AreTightPool, ChangesOnly}
use Rattle.zot_rows.specs.Histories.{BothTell, EntersRow}
use Rattle.zot_rows.specs.Rows.{AreAgreedIn, HasRowFault, HaveCause, failed_in, opened_in, part_faults, pool_faults, row_for, states_of}
use Rattle.zot_rows.specs.declared.rows.Rows.{Rows}
use Rattle.zot_member.specs.declared.place.Place.{Place}
use Rattle.zot_member.specs.declared.place.Place.TheVariants as places

-- a fact of the name of the repository that a request is on
abbrev pub OnNamed : Request → (List ℕ → Type 0) → Type 0
OnNamed request P = IfSome request.name P

-- a request on a repository is answered by the row of its name, at the moment that a clock tells, and every other row stays
pub record AnswersIn {S : Type 0} {G : Ghosts S} (old : Rows S G) (told : Option ℕ) (request : Request) (reply : Reply) (new : Rows S G) : Type 0 where
  pub moment : ℕ
  pub at : IsAt told moment
  pub enters : AreAgreedIn old → BothTell (states_of old) (states_of new) (λ before after. OnNamed request (λ name. EntersRow (row_for old name) before (Ask request) moment (answers.Reply reply) after))
  pub agreed : AreAgreedIn old → AreAgreedIn new
  pub cause : HaveCause (pool_faults old) (pool_faults new) (failed_in old) (failed_in new)
  pub fault : OnNamed request (λ name. HasRowFault (row_for old name) reply (part_faults old) (part_faults new) (pool_faults old) (pool_faults new))
  pub beside : OnNamed request (λ name. ChangesOnly (row_for old name) old.rows.items new.rows.items)
  pub config : new.config ≡ old.config
  pub opened : opened_in new ≡ opened_in old
  pub tight : AreDeduped old.pool.shards.items → AreTightPool old.pool.shards.items → AreTightPool new.pool.shards.items
  pub dedupe : AreDeduped old.pool.shards.items → AreDeduped new.pool.shards.items

-- what a member answers to a request at such a place that asks no other one: by the rows, or a reply that is no repository's
abbrev pub AnswersAlone : {S : Type 0} {G : Ghosts S} → Place → Rows S G → Option ℕ → Request → Reply → Rows S G → Type 0
AnswersAlone places.Base old told request reply new = (reply ≡ Base) × (new ≡ old)
AnswersAlone places.Own old told request reply new = AnswersIn old told request reply new
AnswersAlone places.Refused old told request reply new = (reply ≡ hop_refused) × (new ≡ old)
AnswersAlone (places.Foreign owner) old told request reply new = ⊥

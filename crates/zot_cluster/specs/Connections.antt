-- What a connection at a member does to the rows of a cluster, and where it may be said that the storage failed.
use Rattle.std.specs.Prelude.{◌≡◌, ◌≢◌, ◌≤◌, ◌⊎◌, ℕ, List, [], ◌∷◌, Option, IfSome, IsSomeAnd, slice_index}
use Rattle.zot_repo.specs.declared.row_config.RowConfig.{RowConfig}
use Rattle.zot_member.specs.Neighbours.{Makes}
use Rattle.zot_model.specs.Refusals.{no_memory, storage_fault}
use Rattle.zot_model.specs.declared.reply.Reply.{Reply}
use Rattle.zot_model.specs.declared.request.Request.{Request}
use Rattle.zot_outside.specs.Faults.{Rose}
use Rattle.zot_outside.specs.Moments.{StaysAt}
use Rattle.zot_outside.specs.declared.stores.store.Store.{Ghosts}
use Rattle.zot_pool.specs.Pools.{AreDeduped, AreTightPool, ChangesOnly}
use Rattle.zot_rows.specs.Histories.{BothTell}
use Rattle.zot_rows.specs.Rows.{AreAgreedIn, HaveCause, failed_in, opened_in, part_faults, pool_faults, row_by, states_of}
use Rattle.zot_rows.specs.declared.rows.Rows.{Rows}
use Rattle.zot_session.specs.Exchanges.{Exchange, answered, declined}
use Rattle.zot_cluster.specs.Entries.{Records}

-- how many calls have failed: of each row's part, and of the pool's parts
pub record Failures : Type 0 where
  pub parts : List ℕ
  pub pool : ℕ

abbrev pub failures_of : {S : Type 0} {G : Ghosts S} → Rows S G → Failures
failures_of rows = record { parts = part_faults rows; pool = pool_faults rows }

-- Where the reply to a request on this repository says that the storage failed, the count of its row's part rose, or that of the pool's parts. Where it says neither that nor that memory ran out, the count of every row's part stays. Other rows' parts keep theirs whatever it says, and the pool's never falls
pub record HasReplyCause (config : RowConfig) (name : Option (List ℕ)) (reply : Reply) (old new : Failures) : Type 0 where
  pub failed : reply ≡ storage_fault → IsSomeAnd name (λ one. Rose (slice_index old.parts (row_by config one)) (slice_index new.parts (row_by config one)) ⊎ Rose old.pool new.pool)
  pub kept : reply ≢ storage_fault → reply ≢ no_memory → new.parts ≡ old.parts
  pub beside : IfSome name (λ one. ChangesOnly (row_by config one) old.parts new.parts)
  pub later : old.pool ≤ new.pool

-- so it is with each reply of some exchanges, one after another
abbrev pub HaveReplyCauses : RowConfig → Failures → List Exchange → Failures → Type 0
HaveReplyCauses config old [] new = new ≡ old
HaveReplyCauses config old (answered message request reply ∷ exchanges) new = (mid : Failures) × HasReplyCause config request.name reply old mid × HaveReplyCauses config mid exchanges new
HaveReplyCauses config old (declined message reply ∷ exchanges) new = HaveReplyCauses config old exchanges new

-- what stays of rows and of what a clock tells, whatever is asked: what the pool holds fits what the rows keep, no count of faults rises without a call that failed, and with links of equal bytes no two are stored twice
pub record KeepsRows {S : Type 0} {G : Ghosts S} (told later : Option ℕ) (old new : Rows S G) : Type 0 where
  pub clock : StaysAt told later
  pub agreed : AreAgreedIn old → AreAgreedIn new
  pub config : new.config ≡ old.config
  pub opened : opened_in new ≡ opened_in old
  pub cause : HaveCause (pool_faults old) (pool_faults new) (failed_in old) (failed_in new)
  pub tight : AreDeduped old.pool.shards.items → AreTightPool old.pool.shards.items → AreTightPool new.pool.shards.items
  pub dedupe : AreDeduped old.pool.shards.items → AreDeduped new.pool.shards.items

-- one request was answered at the member with this number, at the moment that a clock tells
pub record AnswersAt {S : Type 0} {G : Ghosts S} (told later : Option ℕ) (member : ℕ) (old : Rows S G) (request : Request) (reply : Reply) (new : Rows S G) : Type 0 where
  pub makes : Makes old told member request reply new
  pub kept : KeepsRows told later old new

-- Some exchanges of a connection at the member with this number, at the moment that a clock tells. Where all parts tell, and what the pool holds fits the rows, the entries of the exchanges lead each row from its old state to its new one
pub record IsConducted {S : Type 0} {G : Ghosts S} (old : Rows S G) (member : ℕ) (told later : Option ℕ) (exchanges : List Exchange) (new : Rows S G) : Type 0 where
  pub history : AreAgreedIn old → BothTell (states_of old) (states_of new) (λ before after. Records old.config member told before exchanges after)
  pub faults : HaveReplyCauses old.config (failures_of old) exchanges (failures_of new)
  pub kept : KeepsRows told later old new

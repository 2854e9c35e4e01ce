-- What a call on a row does, where a pool of digests answers what it asks.
use Rattle.std.specs.Str.{bytes_eq}
use Rattle.std.specs.Prelude.{◌≡◌, ◌≢◌, ◌<◌, ◌≤◌, ◌⊎◌, ℕ, ◌+◌, Bool, false, List, [], ◌∷◌, Option, Some, None, IfSome, is_some, sum, ⊤}
use Rattle.zot_contents.specs.Holders.{name_in}
use Rattle.zot_contents.specs.Pool.{Holders}
use Rattle.zot_contents.specs.declared.pool_call.PoolCall.{PoolCall}
use Rattle.zot_contents.specs.declared.pool_call.PoolCall.TheVariants as pool
use Rattle.zot_contents.specs.declared.pool_reply.PoolReply.{PoolReply}
use Rattle.zot_contents.specs.declared.pool_reply.PoolReply.TheVariants as replies
use Rattle.zot_contents.specs.declared.shard.DigestShard.{DigestShard}
use Rattle.zot_digest.specs.Digest.{IsDigest}
use Rattle.zot_model.specs.History.{Run, entry_for}
use Rattle.zot_model.specs.Mounts.{Asks as AsksMount}
use Rattle.zot_model.specs.Refusals.{storage_fault}
use Rattle.zot_model.specs.declared.reply.Reply.{Reply}
use Rattle.zot_model.specs.declared.row.RowCall.{RowCall}
use Rattle.zot_model.specs.declared.row.RowCall.TheVariants.{Ask}
use Rattle.zot_model.specs.declared.row.RowReply.{RowReply}
use Rattle.zot_model.specs.declared.row.RowReply.TheVariants as answers
use Rattle.zot_names.specs.Name.{IsName}
use Rattle.zot_outside.specs.Faults.{Rose}
use Rattle.zot_outside.specs.declared.stores.store.Store.{Ghosts}
use Rattle.zot_pool.specs.Pools.{AreDeduped, AreTightPool, BothHold, faults_of, holds, objects_of}
use Rattle.zot_row.specs.Turns.{Counts, given}
use Rattle.zot_repo.specs.RowGoing.{BeginsRow, FitsNext, GoesRow, HasCause, IsOwn, KeepsBeside, MountsNext, OnDone, OnName, Rests, pending_of}
use Rattle.zot_repo.specs.Rows.{AgreesRow, NoneFresh, Tables, TakesRow, state_of, under}
use Rattle.zot_repo.specs.Seats.{EntersPool}
use Rattle.zot_repo.specs.declared.row_core.RowCore.{RowCore}
use Rattle.zot_repo.specs.declared.row_next.RowNext.{RowNext}
use Rattle.zot_repo.specs.declared.row_next.RowNext.TheVariants as nexts
use Rattle.zot_repo.specs.declared.waiting.Waiting.{Waiting}

-- ---- the plain row

-- no call waits
abbrev pub IsIdle : Option Waiting → Type 0
IsIdle waiting = is_some waiting ≡ false

-- where a call was given bytes of another repository, they are those that the repository that it names held under its digest
abbrev pub IsTaken : RowCall → Holders → Option (List ℕ) → Type 0
IsTaken call held None = ⊤
IsTaken (Ask request) held (Some bytes) = (digest from : List ℕ) → AsksMount request.call digest from → held digest from ≡ Some bytes

-- a call at a moment is answered so: what is held fits what is kept, and one entry of the call and its answer leads from the plain row before to that after it
pub record StepsRow (Own : List ℕ → Type 0) (old : Tables) (held : Holders) (before : ℕ) (call : RowCall) (moment : ℕ) (answer : RowReply) (new : Tables) (behind : Holders) (after : ℕ) : Type 0 where
  pub agrees : AgreesRow Own new behind
  pub taken : Option (List ℕ)
  pub is_taken : IsTaken call held taken
  pub run : Run (state_of old held before) (entry_for call answer taken moment after ∷ []) (state_of new behind after)

-- every repository but that of the name holds what it held
abbrev pub KeepsOtherNames : List ℕ → Holders → Holders → Type 0
KeepsOtherNames name old new = (digest other : List ℕ) → IsDigest digest → IsName other → other ≢ name → new digest other ≡ old digest other

-- ---- the faults

-- where the answer is that the storage failed, the count of the row's part rose, or that of all of the pool's parts; and else that of the row's part stayed
pub record HasShardCause (reply : Reply) (before after pooled later : ℕ) : Type 0 where
  pub failed : reply ≡ storage_fault → Rose before after ⊎ Rose pooled later
  pub kept : reply ≢ storage_fault → after ≡ before

-- the same of the row's answer
abbrev pub HasAnswerCause : RowReply → ℕ → ℕ → ℕ → ℕ → Type 0
HasAnswerCause (answers.Reply reply) before after pooled later = HasShardCause reply before after pooled later

-- it isn't answered that the storage failed
abbrev pub IsUnfailed : RowReply → Type 0
IsUnfailed (answers.Reply reply) = reply ≢ storage_fault

-- no answer was that a shard failed; or the count of all of the pool's parts rose
abbrev pub IsCounted : ℕ → ℕ → ℕ → ℕ → Type 0
IsCounted failed fails pooled later = (fails ≡ failed) ⊎ Rose pooled later

-- ---- what the pool is asked

-- a call is answered so: the row of the repository that it is on sees what it asked for, and a mount is given what the named one held
pub record AnswersAsked (asked : PoolCall) (answered : PoolReply) (held behind : Holders) : Type 0 where
  pub takes : IfSome (name_in asked) (λ name. IsName name → TakesRow IsName name answered asked held behind)
  pub taken : (name from digest : List ℕ) → IsName name → asked ≡ pool.Mount name from digest → IfSome (given answered asked (under behind name)) (λ bytes. held digest from ≡ Some bytes)

-- whether a call on a digest is for the repository of a name
abbrev pub is_for : List ℕ → PoolCall → Bool
is_for name pool.Holdings = false
is_for name (pool.Attach own digest bytes) = bytes_eq own name
is_for name (pool.Mount own from digest) = bytes_eq own name
is_for name (pool.Read own digest) = bytes_eq own name
is_for name (pool.Detach own digest) = bytes_eq own name

-- a pool is asked for the repository of a name, and so many of its answers were that a shard failed
pub record Asked {S : Type 0} {G : Ghosts S} (name : List ℕ) (old : List (DigestShard S G)) (failed : ℕ) (asked : PoolCall) (answered : PoolReply) (new : List (DigestShard S G)) (fails : ℕ) : Type 0 where
  pub answer : BothHold (holds (objects_of old)) (holds (objects_of new)) (AnswersAsked asked answered)
  pub others : BothHold (holds (objects_of old)) (holds (objects_of new)) (KeepsOtherNames name)
  pub entries : BothHold (holds (objects_of old)) (holds (objects_of new)) (EntersPool name)
  pub counts : Counts answered failed fails
  pub rose : answered ≡ replies.Failed → Rose (sum (faults_of old)) (sum (faults_of new))
  pub later : sum (faults_of old) ≤ sum (faults_of new)
  pub tight : AreDeduped old → AreTightPool old → AreTightPool new
  pub dedupe : AreDeduped old → AreDeduped new

-- ---- a call begins

-- a call on a repository of the row begins so, at a moment
pub record BeginsCall {S : Type 0} {G : Ghosts S} (old : RowCore S G) (call : RowCall) (moment : ℕ) (next : RowNext) (new : RowCore S G) : Type 0 where
  pub answer : BeginsRow (IsOwn old.config old.row) call moment old.repos (G.faults old.part) next new.waiting new.repos (G.faults new.part)
  pub idle : OnName call (λ name. Rests next name moment new.waiting)
  pub faults : HasCause next (G.faults old.part) (G.faults new.part)
  pub fits : FitsNext call next new.waiting
  pub mount : MountsNext call next
  pub beside : OnName call (λ name. KeepsBeside (G.objects old.part) name (G.objects new.part))
  pub names : OnDone next (NoneFresh None new.repos)
  pub row : new.row ≡ old.row
  pub config : new.config ≡ old.config
  pub opened : new.opened ≡ old.opened

-- ---- a call in progress

-- a call that is to take over a blob asks the pool no further time for it
abbrev pub IsLate : RowCall → Option Waiting → Type 0
IsLate (Ask request) waiting = (digest from : List ℕ) → AsksMount request.call digest from → pending_of waiting < 2

-- a call has led to this so far
pub record Led (Own : List ℕ → Type 0) (call : RowCall) (moment : ℕ) (old : Tables) (held : Holders) (before : ℕ) (next : RowNext) (waiting : Option Waiting) (new : Tables) (behind : Holders) (after : ℕ) : Type 0 where
  pub taken : Option (List ℕ)
  pub is_taken : IsTaken call held taken
  pub goes : GoesRow Own next waiting taken (state_of old held before) call moment new behind after
  pub first : (behind ≡ held) ⊎ IsLate call waiting

-- the faults so far: none of the part while the call waits
abbrev pub HasCauseSoFar : RowNext → ℕ → ℕ → ℕ → ℕ → Type 0
HasCauseSoFar (nexts.Done answer) before after pooled later = HasAnswerCause answer before after pooled later
HasCauseSoFar (nexts.Pool asked) before after pooled later = after ≡ before

-- a call on a row has led to this so far, with so many answers that a shard failed: the row and the pool's shards before and now
pub record Drives {S : Type 0} {G : Ghosts S} (old : RowCore S G) (failed : ℕ) (before : List (DigestShard S G)) (call : RowCall) (moment : ℕ) (next : RowNext) (new : RowCore S G) (fails : ℕ) (after : List (DigestShard S G)) : Type 0 where
  pub answer : BothHold (holds (objects_of before)) (holds (objects_of after))
      (λ held behind. AgreesRow (IsOwn old.config old.row) old.repos held → Led (IsOwn old.config old.row) call moment old.repos held (G.faults old.part + failed) next new.waiting new.repos behind (G.faults new.part + fails))
  pub others : BothHold (holds (objects_of before)) (holds (objects_of after)) (λ held behind. OnName call (λ name. KeepsOtherNames name held behind))
  pub entries : BothHold (holds (objects_of before)) (holds (objects_of after)) (λ held behind. OnName call (λ name. EntersPool name held behind))
  pub rests : OnName call (λ name. Rests next name moment new.waiting)
  pub fits : FitsNext call next new.waiting
  pub beside : OnName call (λ name. KeepsBeside (G.objects old.part) name (G.objects new.part))
  pub names : OnDone next (NoneFresh None new.repos)
  pub cause : HasCauseSoFar next (G.faults old.part) (G.faults new.part) (sum (faults_of before)) (sum (faults_of after))
  pub later : sum (faults_of before) ≤ sum (faults_of after)
  pub counted : IsCounted failed fails (sum (faults_of before)) (sum (faults_of after))
  pub tight : AreDeduped before → AreTightPool before → AreTightPool after
  pub dedupe : AreDeduped before → AreDeduped after
  pub row : new.row ≡ old.row
  pub config : new.config ≡ old.config
  pub opened : new.opened ≡ old.opened

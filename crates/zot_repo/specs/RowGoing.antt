-- What a call on a row promises: of its repositories and its answer, of the part, and of the faults.
use Rattle.std.specs.Prelude.{◌≡◌, ◌≢◌, ◌<◌, ◌⊎◌, ℕ, ◌+◌, List, [], ◌∷◌, Option, Some, None, IfSome, IsSome, IsSomeAnd, option_map, ⊤}
use Rattle.std.specs.FinMap as finite
use Rattle.zot_contents.specs.Pool.{Holders}
use Rattle.zot_contents.specs.declared.pool_call.PoolCall.{PoolCall}
use Rattle.zot_contents.specs.declared.pool_call.PoolCall.TheVariants as pool
use Rattle.zot_contents.specs.declared.pool_reply.PoolReply.{PoolReply}
use Rattle.zot_layout.specs.Rows.{IsOfRow}
use Rattle.zot_layout.specs.Writing.{KeepsElsewhere, StandsWhereTold}
use Rattle.zot_model.specs.Fits.{IsFitting}
use Rattle.zot_model.specs.History.{Run, entry_for}
use Rattle.zot_model.specs.Mounts.{Asks as AsksMount}
use Rattle.zot_model.specs.Plain.{Stay}
use Rattle.zot_model.specs.Refusals.{no_memory, storage_fault}
use Rattle.zot_model.specs.State.{RowState, repo_at}
use Rattle.zot_model.specs.declared.request.Request.{Request}
use Rattle.zot_model.specs.declared.row.RowCall.{RowCall}
use Rattle.zot_model.specs.declared.row.RowCall.TheVariants.{Ask}
use Rattle.zot_model.specs.declared.row.RowReply.TheVariants as answers
use Rattle.zot_outside.specs.Objects.{Objects, Told}
use Rattle.zot_siphash.specs.Owners as owners
use Rattle.zot_siphash.specs.SipHash.{siphash}
use Rattle.zot_row.specs.Doing.{Doing}
use Rattle.zot_row.specs.Going.{HasEitherCause, HasPartCause}
use Rattle.zot_repo.specs.Rows.{AgreesRow, NoneFresh, Tables, TakesRow, none_held, state_of, table_at, under}
use Rattle.zot_row.specs.Stages.{IsFor, pending}
use Rattle.zot_row.specs.Turns.{Counts, given}
use Rattle.zot_repo.specs.declared.row_config.RowConfig.{RowConfig}
use Rattle.zot_repo.specs.declared.row_next.RowNext.{RowNext}
use Rattle.zot_repo.specs.declared.row_next.RowNext.TheVariants as nexts
use Rattle.zot_row.specs.declared.turn.Turn.{Turn}
use Rattle.zot_row.specs.declared.turn.Turn.TheVariants as turns
use Rattle.zot_repo.specs.declared.waiting.Waiting.{Waiting}

-- ---- its names

-- the names of the row's repositories
abbrev pub IsOwn : RowConfig → ℕ → List ℕ → Type 0
IsOwn config row name = IsOfRow config.key config.members row name

-- a name is placed in the row
abbrev pub IsPlaced : RowConfig → ℕ → List ℕ → Type 0
IsPlaced config row name = owners.row (siphash config.key name) config.members ≡ row

-- a call on one of its repositories
abbrev pub IsOnOwn : (List ℕ → Type 0) → RowCall → Type 0
IsOnOwn Own (Ask request) = IsSomeAnd request.name Own

-- a fact of the name of the repository that a call is on
abbrev pub OnName : RowCall → (List ℕ → Type 0) → Type 0
OnName (Ask request) P = IfSome request.name P

-- ---- the answer and the plain row

-- a request waits for an answer to what was asked, and began with this row: its repository is as that stage says, and all others are as they were
pub record Waits (waiting : Waiting) (old : RowState) (request : Request) (asked : PoolCall) (tables : Tables) (held : Holders) (faults : ℕ) : Type 0 where
  pub named : request.name ≡ Some waiting.name
  pub doing : Doing waiting.name waiting.stage (repo_at old waiting.name) request.call waiting.moment asked (table_at tables waiting.name) (under held waiting.name)
  pub others : (other : List ℕ) → other ≢ waiting.name → repo_at (state_of tables held faults) other ≡ repo_at old other
  pub count : Stay old.faults faults

-- the row waits with the call
abbrev pub DoingRow : Option Waiting → RowState → RowCall → PoolCall → Tables → Holders → ℕ → Type 0
DoingRow waiting old (Ask request) asked tables held faults = IsSomeAnd waiting (λ w. Waits w old request asked tables held faults)

-- a call that began with this row, and was given these bytes, if any, leads to this: it is answered, by the one entry that stands for it, or it waits for the pool. What is held fits what is kept
abbrev pub GoesRow : (List ℕ → Type 0) → RowNext → Option Waiting → Option (List ℕ) → RowState → RowCall → ℕ → Tables → Holders → ℕ → Type 0
GoesRow Own (nexts.Done answer) waiting taken old call moment new held faults = AgreesRow Own new held × Run old (entry_for call answer taken moment faults ∷ []) (state_of new held faults)
GoesRow Own (nexts.Pool asked) waiting taken old call moment new held faults = AgreesRow Own new held × DoingRow waiting old call asked new held faults × (taken ≡ None)

-- a call begins so, whatever is held that fits, and however many calls of the pool have failed
abbrev pub BeginsRow : (List ℕ → Type 0) → RowCall → ℕ → Tables → ℕ → RowNext → Option Waiting → Tables → ℕ → Type 0
BeginsRow Own call moment old before next waiting new after =
    (held : Holders) (failed : ℕ) → AgreesRow Own old held → GoesRow Own next waiting None (state_of old held (before + failed)) call moment new held (after + failed)

-- a call that waits goes on so, whatever it was that waits and whatever is held, where the pool answers so
abbrev pub GoesOnRow : (List ℕ → Type 0) → Option Waiting → PoolReply → Tables → ℕ → RowNext → Option Waiting → Tables → ℕ → Type 0
GoesOnRow Own was answered repos before next waiting new after =
    IfSome was (λ w. (old : RowState) (call : RowCall) (asked : PoolCall) (held behind : Holders) (failed fails : ℕ) → AgreesRow Own repos held → DoingRow was old call asked repos held (before + failed)
    → TakesRow Own w.name answered asked held behind → Counts answered failed fails
    → GoesRow Own next waiting (given answered asked (under behind w.name)) old call w.moment new behind (after + fails))

-- ---- whether a call waits

-- a call that is answered doesn't wait, and another one waits with its name and moment
abbrev pub Rests : RowNext → List ℕ → ℕ → Option Waiting → Type 0
Rests (nexts.Done answer) name moment waiting = waiting ≡ None
Rests (nexts.Pool asked) name moment waiting = IsSomeAnd waiting (λ w. (w.name ≡ name) × (w.moment ≡ moment))

-- the name of the repository that a waiting call is on
abbrev pub name_in : Option Waiting → Option (List ℕ)
name_in waiting = option_map (λ w. w.name) waiting

-- how often the pool is asked from here on, at most
abbrev pub pending_of : Option Waiting → ℕ
pending_of None = 0
pending_of (Some waiting) = pending waiting.stage

-- the repository that a waiting call is on has a table
abbrev pub HasWaiting : Option Waiting → Tables → Type 0
HasWaiting waiting tables = IfSome waiting (λ w. IsSome (finite.get tables w.name))

-- it is placed in the row
abbrev pub IsWaitingPlaced : RowConfig → ℕ → Option Waiting → Type 0
IsWaitingPlaced config row waiting = IfSome waiting (λ w. IsPlaced config row w.name)

-- a fact of a call that is answered
abbrev pub OnDone : RowNext → Type 0 → Type 0
OnDone (nexts.Done answer) P = P
OnDone (nexts.Pool asked) P = ⊤

-- a fact of a call that waits
abbrev pub OnPool : RowNext → Type 0 → Type 0
OnPool (nexts.Done answer) P = ⊤
OnPool (nexts.Pool asked) P = P

-- what a turn of the call's repository leads to
abbrev pub next_of : Turn → RowNext
next_of (turns.Done reply) = nexts.Done (answers.Reply reply)
next_of (turns.Asks asked stage) = nexts.Pool asked

-- the call that waits then, if one does
abbrev pub waiting_of : Turn → List ℕ → ℕ → Option Waiting
waiting_of (turns.Done reply) name moment = None
waiting_of (turns.Asks asked stage) name moment = Some (record { name = name; stage = stage; moment = moment })

-- ---- the part

-- the objects stand for what is kept of the row's repositories, where they are told. The bytes of blobs lie in other parts
abbrev pub StandsForTables : Option Objects → ℕ → (List ℕ → Type 0) → Tables → Type 0
StandsForTables objects opened Own tables = StandsWhereTold objects opened Own (state_of tables none_held 0)

-- no object has changed but the marker and the index of the call's repository
abbrev pub KeepsBeside : Option Objects → List ℕ → Option Objects → Type 0
KeepsBeside before name after = Told before after (λ old new. KeepsElsewhere old name new)

-- ---- the faults

-- where the answer is that the storage failed, the part's count of faults rose, and else it stayed
abbrev pub HasCause : RowNext → ℕ → ℕ → Type 0
HasCause (nexts.Done (answers.Reply reply)) before after = HasPartCause reply before after
HasCause (nexts.Pool asked) before after = after ≡ before

-- the same after an answer of the pool, which may be that a shard failed
abbrev pub HasCauseAfter : PoolReply → RowNext → ℕ → ℕ → Type 0
HasCauseAfter answered (nexts.Done (answers.Reply reply)) before after = HasEitherCause answered reply before after
HasCauseAfter answered (nexts.Pool asked) before after = after ≡ before

-- ---- the call

-- the call may wait so
abbrev pub IsForCall : RowCall → Waiting → Type 0
IsForCall (Ask request) waiting = (request.name ≡ Some waiting.name) × IsFor waiting.stage request.call

-- the call may be answered so, or wait so
abbrev pub FitsNext : RowCall → RowNext → Option Waiting → Type 0
FitsNext call (nexts.Done answer) waiting = IsFitting call answer
FitsNext call (nexts.Pool asked) waiting = IsSomeAnd waiting (IsForCall call)

-- the pool is asked for what another repository holds, but for an answer that memory ran out or the storage failed
abbrev pub AsksNextToMount : List ℕ → List ℕ → List ℕ → RowNext → Type 0
AsksNextToMount name from digest (nexts.Done (answers.Reply reply)) = (reply ≡ no_memory) ⊎ (reply ≡ storage_fault)
AsksNextToMount name from digest (nexts.Pool asked) = asked ≡ pool.Mount name from digest

-- a POST that is to take over a blob asks the pool for it first
abbrev pub MountsNext : RowCall → RowNext → Type 0
MountsNext (Ask request) next = IfSome request.name (λ name. (digest from : List ℕ) → AsksMount request.call digest from → AsksNextToMount name from digest next)

-- ---- all of it

-- a request on the row's repository of a name begins so, at a moment: from these tables and this part, its objects and its faults, to those
pub record StartsRow (Own : List ℕ → Type 0) (request : Request) (name : List ℕ) (moment : ℕ) (old : Tables) (objects : Option Objects) (before : ℕ) (next : RowNext) (waiting : Option Waiting) (new : Tables) (later : Option Objects) (after : ℕ) : Type 0 where
  pub answer : BeginsRow Own (Ask request) moment old before next waiting new after
  pub rests : Rests next name moment waiting
  pub cause : HasCause next before after
  pub fits : FitsNext (Ask request) next waiting
  pub mount : MountsNext (Ask request) next
  pub stands : (opened : ℕ) → StandsForTables objects opened Own old → StandsForTables later opened Own new
  pub beside : (opened : ℕ) → StandsForTables objects opened Own old → KeepsBeside objects name later
  pub names : NoneFresh None old → NoneFresh (name_in waiting) new
  pub kept : HasWaiting waiting new

-- a call that waits goes on so, where the pool answers so
pub record ResumesRow (Own : List ℕ → Type 0) (was : Waiting) (answered : PoolReply) (old : Tables) (objects : Option Objects) (before : ℕ) (next : RowNext) (waiting : Option Waiting) (new : Tables) (later : Option Objects) (after : ℕ) : Type 0 where
  pub answer : GoesOnRow Own (Some was) answered old before next waiting new after
  pub rests : Rests next was.name was.moment waiting
  pub cause : HasCauseAfter answered next before after
  pub fits : (call : RowCall) → IsForCall call was → FitsNext call next waiting
  pub falls : pending_of waiting < pending was.stage
  pub stands : (opened : ℕ) → StandsForTables objects opened Own old → StandsForTables later opened Own new
  pub beside : (opened : ℕ) → StandsForTables objects opened Own old → KeepsBeside objects was.name later
  pub names : NoneFresh (Some was.name) old → NoneFresh (name_in waiting) new
  pub kept : HasWaiting waiting new

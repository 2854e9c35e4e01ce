-- What a turn promises: of the repository and its answer, of the part, and of the faults.
use Rattle.std.specs.Prelude.{◌≡◌, ◌≢◌, ◌<◌, ◌⊎◌, ℕ, ◌+◌, Bool, true, false, if◌then◌else◌, List, length, Err, Option, None, IfSome, ⊤}
use Rattle.std.specs.FinMap as finite
use Rattle.zot_contents.specs.declared.pool_call.PoolCall.{PoolCall}
use Rattle.zot_contents.specs.declared.pool_call.PoolCall.TheVariants as pool
use Rattle.zot_contents.specs.declared.pool_reply.PoolReply.{PoolReply}
use Rattle.zot_contents.specs.declared.pool_reply.PoolReply.TheVariants as replies
use Rattle.zot_layout.specs.Rows.{layout_of}
use Rattle.zot_layout.specs.Stands.{AreAlike, StandsFor}
use Rattle.zot_layout.specs.Writing.{KeepsElsewhere, Told}
use Rattle.zot_model.specs.declared.call.Call.{Call}
use Rattle.zot_model.specs.declared.reply.Reply.{Reply}
use Rattle.zot_model.specs.declared.reply.Reply.TheVariants.{Session}
use Rattle.zot_model.specs.Fits.{FitsCall}
use Rattle.zot_model.specs.Mounts.{Asks as AsksMount}
use Rattle.zot_model.specs.Plain.{Stay}
use Rattle.zot_model.specs.Refusals.{no_memory, storage_fault}
use Rattle.zot_model.specs.State.{RepoState}
use Rattle.zot_model.specs.Uploads.{is_full, with_new}
use Rattle.zot_outside.specs.Faults.{HasStoreCause, Rose}
use Rattle.zot_outside.specs.Objects.{Objects}
use Rattle.zot_outside.specs.declared.stores.store_error.StoreError.{StoreError}
use Rattle.zot_table.specs.Changes.{known_as, reserved, with_uploads}
use Rattle.zot_table.specs.Standing.{Agrees, Holds, repo_of}
use Rattle.zot_table.specs.Tables.{RepoTable}
use Rattle.zot_row.specs.Doing.{Doing}
use Rattle.zot_row.specs.Refusals.{store_refusal}
use Rattle.zot_row.specs.Stages.{IsFor, Learns, pending}
use Rattle.zot_row.specs.Turns.{Counts, Ends, Takes, given}
use Rattle.zot_row.specs.declared.stage.Attaching.{Attaching}
use Rattle.zot_row.specs.declared.stage.Learning.{Learning}
use Rattle.zot_row.specs.declared.stage.Rest.{Rest}
use Rattle.zot_row.specs.declared.stage.Stage.{Stage}
use Rattle.zot_row.specs.declared.stage.Stage.TheVariants as stages
use Rattle.zot_row.specs.declared.turn.Turn.{Turn}
use Rattle.zot_row.specs.declared.turn.Turn.TheVariants as turns

-- ---- the repository and the answer

-- a call that began with this state, and was given these bytes, if any, leads to this: it is answered, or it waits for the pool, and then the storage faults stay. What is held fits what is kept
abbrev pub Goes : Turn → Option (List ℕ) → RepoState → Call → ℕ → List ℕ → RepoTable → Holds → ℕ → ℕ → Type 0
Goes (turns.Done reply) taken old call moment name new holds before after = Agrees new holds × Ends taken moment old call reply (repo_of new holds) before after
Goes (turns.Asks asked stage) taken old call moment name new holds before after = Agrees new holds × Doing name stage old call moment asked new holds × Stay before after × (taken ≡ None)

-- a call begins so, whatever is held that fits, and however many calls of the pool have failed
abbrev pub Begins : Call → ℕ → List ℕ → RepoTable → ℕ → Turn → RepoTable → ℕ → Type 0
Begins call moment name old before result new after =
    (holds : Holds) (failed : ℕ) → Agrees old holds → Goes result None (repo_of old holds) call moment name new holds (before + failed) (after + failed)

-- a call that waits goes on so, whatever it was that waits and whatever is held, where the pool answers so
abbrev pub GoesOn : Stage → PoolReply → ℕ → List ℕ → RepoTable → ℕ → Turn → RepoTable → ℕ → Type 0
GoesOn stage reply moment name repo before result new after =
    (old : RepoState) (call : Call) (asked : PoolCall) (holds behind : Holds) (failed fails : ℕ) → Agrees repo holds → Doing name stage old call moment asked repo holds → Takes reply asked holds behind
    → Counts reply failed fails → Goes result (given reply asked behind) old call moment name new behind (before + failed) (after + fails)

-- ---- the part

-- what the repository is without its blobs, which lie in other parts
abbrev pub kept_of : RepoTable → RepoState
kept_of repo = repo_of repo (λ _. None)

-- the objects stand for what is kept of the repository, where they are told
abbrev pub StandsAt : Option Objects → ℕ → List ℕ → RepoTable → Type 0
StandsAt objects opened name repo = IfSome objects (λ told. StandsFor told opened name (kept_of repo))

-- where they stood for it before, they do after
abbrev pub KeepsStanding : Option Objects → List ℕ → RepoTable → Option Objects → RepoTable → Type 0
KeepsStanding before name old after new = (opened : ℕ) → StandsAt before opened name old → StandsAt after opened name new

-- no object has changed but those of the repository's layout, and of every other name the objects hold what they held
pub record LeavesOthers (old : Objects) (name : List ℕ) (new : Objects) : Type 0 where
  pub layouts : (other : List ℕ) → other ≢ name → (moment : ℕ) → layout_of new other moment ≡ layout_of old other moment
  pub elsewhere : KeepsElsewhere old name new

-- that is so where the objects stood for the repository; a store that didn't tell them still doesn't
abbrev pub KeepsOthers : Option Objects → List ℕ → RepoTable → Option Objects → Type 0
KeepsOthers before name repo after = (opened : ℕ) → StandsAt before opened name repo → Told before after (λ old new. LeavesOthers old name new)

-- ---- the faults

-- where the answer is that the storage failed, the part's count of faults rose, and else it stayed
pub record HasPartCause (reply : Reply) (before after : ℕ) : Type 0 where
  pub failed : reply ≡ storage_fault → Rose before after
  pub kept : reply ≢ storage_fault → after ≡ before

-- a turn has its cause in the part; while it waits the count stays
abbrev pub HasTurnCause : Turn → ℕ → ℕ → Type 0
HasTurnCause (turns.Done reply) before after = HasPartCause reply before after
HasTurnCause (turns.Asks asked stage) before after = after ≡ before

-- the same after an answer of the pool, which may be that a shard failed
pub record HasEitherCause (answered : PoolReply) (reply : Reply) (before after : ℕ) : Type 0 where
  pub failed : reply ≡ storage_fault → Rose before after ⊎ (answered ≡ replies.Failed)
  pub kept : reply ≢ storage_fault → after ≡ before

abbrev pub HasNextCause : PoolReply → Turn → ℕ → ℕ → Type 0
HasNextCause answered (turns.Done reply) before after = HasEitherCause answered reply before after
HasNextCause answered (turns.Asks asked stage) before after = after ≡ before

-- ---- the turn alone

-- the call may be answered so, or wait so
abbrev pub FitsTurn : Call → Turn → Type 0
FitsTurn call (turns.Done reply) = FitsCall call reply
FitsTurn call (turns.Asks asked stage) = IsFor stage call

-- the pool is asked for what another repository holds, but for an answer that memory ran out or the storage failed
abbrev pub AsksToMount : List ℕ → List ℕ → List ℕ → Turn → Type 0
AsksToMount name from digest (turns.Done reply) = (reply ≡ no_memory) ⊎ (reply ≡ storage_fault)
AsksToMount name from digest (turns.Asks asked stage) = asked ≡ pool.Mount name from digest

-- a POST that is to take over a blob asks the pool for it first
abbrev pub MountsFirst : Call → List ℕ → Turn → Type 0
MountsFirst call name result = (digest from : List ℕ) → AsksMount call digest from → AsksToMount name from digest result

-- the pool is asked less often from here on than from the stage
abbrev pub Falls : Stage → Turn → Type 0
Falls stage (turns.Done reply) = ⊤
Falls stage (turns.Asks asked next) = pending next < pending stage

-- ---- all of it

-- a call on the repository of a name begins so, at a moment: from this table and this part, its objects and its faults, to those
pub record Starts (call : Call) (moment : ℕ) (name : List ℕ) (old : RepoTable) (objects : Option Objects) (before : ℕ) (result : Turn) (new : RepoTable) (later : Option Objects) (after : ℕ) : Type 0 where
  pub answer : Begins call moment name old before result new after
  pub stands : KeepsStanding objects name old later new
  pub beside : KeepsOthers objects name old later
  pub faults : HasTurnCause result before after
  pub fits : FitsTurn call result
  pub mount : MountsFirst call name result

-- and goes on so from a stage, where the pool answers so
pub record Resumes (stage : Stage) (answered : PoolReply) (moment : ℕ) (name : List ℕ) (old : RepoTable) (objects : Option Objects) (before : ℕ) (result : Turn) (new : RepoTable) (later : Option Objects) (after : ℕ) : Type 0 where
  pub answer : GoesOn stage answered moment name old before result new after
  pub stands : KeepsStanding objects name old later new
  pub beside : KeepsOthers objects name old later
  pub faults : HasNextCause answered result before after
  pub fits : (call : Call) → IsFor stage call → FitsTurn call result
  pub falls : Falls stage result

-- ---- turns that leave the part alone

-- it isn't answered that the storage failed
abbrev pub IsCalm : Turn → Type 0
IsCalm (turns.Done reply) = reply ≢ storage_fault
IsCalm (turns.Asks asked stage) = ⊤

-- a call on the repository of a name begins so, and asks nothing of the part
pub record Quietly (call : Call) (moment : ℕ) (name : List ℕ) (old : RepoTable) (result : Turn) (new : RepoTable) : Type 0 where
  pub answer : (holds : Holds) (faults : ℕ) → Agrees old holds → Goes result None (repo_of old holds) call moment name new holds faults faults
  pub alike : AreAlike (kept_of old) (kept_of new)
  pub fits : FitsTurn call result
  pub calm : IsCalm result

-- a call that takes over no blob
abbrev pub NeverMounts : Call → Type 0
NeverMounts call = (digest from : List ℕ) → AsksMount call digest from → ⊥

-- the pool is asked this, and there is room under the digest then; or memory ran out, and nothing changed
abbrev pub AsksWithRoom : Turn → PoolCall → Stage → List ℕ → RepoTable → RepoTable → Type 0
AsksWithRoom result asked stage digest old new = ((result ≡ turns.Asks asked stage) × (new ≡ reserved old digest)) ⊎ ((result ≡ turns.Done no_memory) × (new ≡ old))

-- the pool is asked to hold these bytes under a digest
abbrev pub AsksToAttach : Turn → List ℕ → List ℕ → List ℕ → Attaching → RepoTable → RepoTable → Type 0
AsksToAttach result name digest bytes purpose old new = AsksWithRoom result (pool.Attach name digest bytes) (stages.Attach digest (length bytes) purpose) digest old new

-- it is asked for what another repository holds
abbrev pub AsksToTake : Turn → List ℕ → List ℕ → List ℕ → Bool → Rest → RepoTable → RepoTable → Type 0
AsksToTake result name from digest made rest old new = AsksWithRoom result (pool.Mount name from digest) (stages.Mount digest made rest) digest old new

-- an upload is opened at the moment, or memory ran out, and nothing changed
abbrev pub Opens : ℕ → RepoTable → Reply → RepoTable → Type 0
Opens moment old reply new =
    ((is_full old.sessions ≡ false) × (reply ≡ Session (old.sessions.opened + 1) 0 202) × (new ≡ with_uploads old (with_new moment old.sessions)))
    ⊎ ((reply ≡ no_memory) × (new ≡ old))

-- a repository that waits for bytes is known and has room for them; or it isn't so
abbrev pub IsReady : RepoTable → List ℕ → Type 0
IsReady repo digest = (repo.known ≡ true) × (finite.contains_key repo.slots digest ≡ true)

abbrev pub IsUnready : RepoTable → List ℕ → Type 0
IsUnready repo digest = (repo.known ≡ false) ⊎ (finite.contains_key repo.slots digest ≡ false)

-- a POST is refused so, and the repository is forgotten again where it was made known for it; or the part refuses that
abbrev pub TakesBack : Bool → Reply → RepoTable → ℕ → Reply → RepoTable → ℕ → Type 0
TakesBack made reply old before result new after =
    ((result ≡ reply) × (new ≡ (if made then known_as false old else old)) × (after ≡ before))
    ⊎ ((error : StoreError) × (result ≡ store_refusal error) × (new ≡ old) × HasStoreCause {T = Unit {0}} before after (Err error))

-- the pool is asked less often than this from here on
abbrev pub IsBelow : ℕ → Turn → Type 0
IsBelow most (turns.Done reply) = ⊤
IsBelow most (turns.Asks asked next) = pending next < most

-- a call that has to know what manifests say goes on so, where this is known of them
pub record GoesOnReading (purpose : Learning) (Known : Type 0) (most : ℕ) (name : List ℕ) (repo : RepoTable) (result : Turn) : Type 0 where
  pub answer : (call : Call) (moment : ℕ) → Learns purpose call → Known → Quietly call moment name repo result repo
  pub fits : (call : Call) → Learns purpose call → FitsTurn call result
  pub calm : IsCalm result
  pub below : IsBelow most result

-- a call goes on so from a stage, and asks nothing of the part
abbrev pub ResumesQuietly : Stage → PoolReply → ℕ → List ℕ → RepoTable → Turn → RepoTable → Type 0
ResumesQuietly stage answered moment name old result new = (objects : Option Objects) (faults : ℕ) → Resumes stage answered moment name old objects faults result new objects faults

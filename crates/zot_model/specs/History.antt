-- Legal histories of a row: lists of what happened, each a step of the plain registry.
use Rattle.std.specs.Prelude.{◌≡◌, ℕ, Bool, false, List, [], ◌∷◌, Option, Some, None, IsSome, IsSomeAnd, ⊤}
use Rattle.std.specs.Str.{bytes_eq}
use Rattle.zot_history.specs.Run.{RunTo}
use Rattle.zot_model.specs.declared.reply.Reply.{Reply}
use Rattle.zot_model.specs.declared.request.Request.{Request}
use Rattle.zot_model.specs.declared.row.RowCall.{RowCall}
use Rattle.zot_model.specs.declared.row.RowCall.TheVariants.{Ask}
use Rattle.zot_model.specs.declared.row.RowReply.{RowReply}
use Rattle.zot_model.specs.declared.row.RowReply.TheVariants as answers
use Rattle.zot_model.specs.Collections.{AreKnown, Finds, Gone, IsSwept, Retires, Rules, Sweeps}
use Rattle.zot_model.specs.Mounts.{TakesOver}
use Rattle.zot_model.specs.Plain.{Goes, MayAnswer, Rise, Stay}
use Rattle.zot_model.specs.declared.finding.Finding.{Finding}
use Rattle.zot_model.specs.Refusals.{storage_fault}
use Rattle.zot_model.specs.State.{AreSame, HaveSameRepos, RowState}

-- the call is asked of a repository
abbrev pub IsNamed : RowCall → Type 0
IsNamed (Ask request) = IsSome request.name

-- what a collection or a scrub does with the repository of a name, and the look for the names of a row's repositories
pub data Task : Type 0 where
  retire : List ℕ → Task
  sweep : List ℕ → Task
  scrub : List ℕ → Task
  names : Task

-- what happened in a row:
-- a request was asked, and answered so;
-- a request was asked, and answered so by taking over these bytes from another repository;
-- a collection retired this from the repository of a name, under its rules and with a delay;
-- a collection removed a blob from it, of a digest, or found no blob left to remove;
-- a scrub looked at so many blobs of it and found this;
-- the names of the row's repositories were these;
-- memory ran out, or the storage failed, while something else than a request was done
pub data Event : Type 0 where
  asked : Request → Reply → Event
  mounted : Request → Reply → List ℕ → Event
  retired : List ℕ → Option Rules → ℕ → Gone → Event
  swept : List ℕ → ℕ → List ℕ → Event
  swept_all : List ℕ → ℕ → Event
  scrubbed : List ℕ → ℕ → List Finding → Event
  named : List (List ℕ) → Event
  lacked : Task → Event
  failed : Task → Event

-- what happened, the moment at which it did, and the row's storage faults after it
pub record Entry : Type 0 where
  pub event : Event
  pub moment : ℕ
  pub faults : ℕ

-- the storage can fail in it: a look for names asks no storage
abbrev pub AsksStorage : Task → Type 0
AsksStorage (retire name) = ⊤
AsksStorage (sweep name) = ⊤
AsksStorage (scrub name) = ⊤
AsksStorage names = ⊥

-- the storage failed, and no repository changed
pub record Fails (task : Task) (old new : RowState) : Type 0 where
  pub asks : AsksStorage task
  pub repos : HaveSameRepos old new
  pub faults : Rise old.faults new.faults

-- what happened may have happened so at the moment, and leads from the old row to the new one
abbrev pub Happens : RowState → ℕ → Event → RowState → Type 0
Happens old moment (asked request reply) new = IsSomeAnd request.name (λ name. MayAnswer moment old name request.call reply new)
Happens old moment (mounted request reply bytes) new = IsSomeAnd request.name (λ name. Goes Stay (TakesOver moment request.call bytes reply) old name new)
Happens old moment (retired name rules delay gone) new = Goes Stay (Retires moment rules delay gone) old name new
Happens old moment (swept name delay digest) new = Goes Stay (Sweeps moment delay digest) old name new
Happens old moment (swept_all name delay) new = Goes Stay (IsSwept moment delay) old name new
Happens old moment (scrubbed name blobs found) new = Goes Stay (Finds blobs found) old name new
Happens old moment (named found) new = AreKnown old found × AreSame old new
Happens old moment (lacked task) new = AreSame old new
Happens old moment (failed task) new = Fails task old new

-- an entry is a step from the old row to the new one
pub record Step (old : RowState) (entry : Entry) (new : RowState) : Type 0 where
  pub happens : Happens old entry.moment entry.event new
  pub faults : entry.faults ≡ new.faults

-- the entries lead from the old row to the new one, one after another
abbrev pub Run : RowState → List Entry → RowState → Type 0
Run old entries new = RunTo AreSame Step old entries new

-- it says that the storage failed
abbrev pub SaysFault : Event → Type 0
SaysFault (asked request reply) = reply ≡ storage_fault
SaysFault (mounted request reply bytes) = ⊥
SaysFault (retired name rules delay gone) = ⊥
SaysFault (swept name delay digest) = ⊥
SaysFault (swept_all name delay) = ⊥
SaysFault (scrubbed name blobs found) = ⊥
SaysFault (named found) = ⊥
SaysFault (lacked task) = ⊥
SaysFault (failed task) = ⊤

-- ---- the entries of a call

-- the entry of a request and its reply
abbrev pub entry_of : Request → Reply → ℕ → ℕ → Entry
entry_of request reply moment faults = record { event = asked request reply; moment = moment; faults = faults }

-- the entry of a request that took over these bytes, and its reply
abbrev pub mount_entry : Request → Reply → List ℕ → ℕ → ℕ → Entry
mount_entry request reply bytes moment faults = record { event = mounted request reply bytes; moment = moment; faults = faults }

-- the entry of a request and its reply, where it took over these bytes, if any
abbrev pub entry_by : Request → Reply → Option (List ℕ) → ℕ → ℕ → Entry
entry_by request reply None moment faults = entry_of request reply moment faults
entry_by request reply (Some bytes) moment faults = mount_entry request reply bytes moment faults

-- the entry of a call and its answer
abbrev pub entry_for : RowCall → RowReply → Option (List ℕ) → ℕ → ℕ → Entry
entry_for (Ask request) (answers.Reply reply) taken moment faults = entry_by request reply taken moment faults

-- the entries stand for a call at a moment and its answer: one of a request and its reply, which may have taken over bytes
abbrev pub StandFor : RowCall → ℕ → RowReply → List Entry → Type 0
StandFor call moment answer entries = (taken : Option (List ℕ)) × (faults : ℕ) × (entries ≡ entry_for call answer taken moment faults ∷ [])

-- a call at a moment is answered so and leads from the old row to the new one: by entries that stand for it
pub record Enters (old : RowState) (call : RowCall) (moment : ℕ) (answer : RowReply) (new : RowState) : Type 0 where
  pub entries : List Entry
  pub stand : StandFor call moment answer entries
  pub run : Run old entries new

-- ---- the entries of a repository

-- whether a repository of this name is the one
abbrev pub is_named : List ℕ → Option (List ℕ) → Bool
is_named name None = false
is_named name (Some other) = bytes_eq name other

-- the name of the repository with which a task has to do
abbrev pub task_name : Task → Option (List ℕ)
task_name (retire name) = Some name
task_name (sweep name) = Some name
task_name (scrub name) = Some name
task_name names = None

-- the name of the repository on which it happened
abbrev pub name_of : Event → Option (List ℕ)
name_of (asked request reply) = request.name
name_of (mounted request reply bytes) = request.name
name_of (retired name rules delay gone) = Some name
name_of (swept name delay digest) = Some name
name_of (swept_all name delay) = Some name
name_of (scrubbed name blobs found) = Some name
name_of (named found) = None
name_of (lacked task) = task_name task
name_of (failed task) = task_name task

-- whether an entry is one of the repository of this name
abbrev pub is_of : List ℕ → Entry → Bool
is_of name entry = is_named name (name_of entry.event)

-- A turn of a repository: what a call on it leads to, where the bytes of its blobs are held by a pool of digests.
use Rattle.std.specs.Prelude.{◌≡◌, ◌⊎◌, ℕ, Bool, List, length, Option, Some, None, is_some, ⊤}
use Rattle.zot_contents.specs.declared.pool_call.PoolCall.{PoolCall}
use Rattle.zot_contents.specs.declared.pool_call.PoolCall.TheVariants as calls
use Rattle.zot_contents.specs.declared.pool_reply.PoolReply.{PoolReply}
use Rattle.zot_contents.specs.declared.pool_reply.PoolReply.TheVariants as replies
use Rattle.zot_digest.specs.Digest.{IsSound}
use Rattle.zot_model.specs.declared.call.Call.{Call}
use Rattle.zot_model.specs.declared.reply.Reply.{Reply}
use Rattle.zot_model.specs.Mounts.{TakesOver}
use Rattle.zot_model.specs.Plain.{FailsToStore, IsPlain, LacksMemory, Rise, Stay}
use Rattle.zot_model.specs.State.{RepoState}
use Rattle.zot_table.specs.Standing.{AreEqual, Holds, Sets}

-- ---- how a call ends

-- as the plain registry answers, or memory ran out, or the storage failed; the storage faults rise where it did, and nowhere else
abbrev pub EndsPlainly : ℕ → RepoState → Call → Reply → RepoState → ℕ → ℕ → Type 0
EndsPlainly moment old call reply new before after =
    (IsPlain moment old call reply new × Stay before after)
    ⊎ (LacksMemory moment old call reply new × Stay before after)
    ⊎ (FailsToStore moment old call reply new × Rise before after)

-- a call that was given bytes of another repository takes them over, and every other one ends plainly
abbrev pub Ends : Option (List ℕ) → ℕ → RepoState → Call → Reply → RepoState → ℕ → ℕ → Type 0
Ends None moment old call reply new before after = EndsPlainly moment old call reply new before after
Ends (Some bytes) moment old call reply new before after = TakesOver moment call bytes reply old new × Stay before after

-- ---- what the pool answers

-- bytes were attached: they are held
abbrev pub Attached : PoolCall → Holds → Holds → Type 0
Attached calls.Holdings before after = ⊥
Attached (calls.Attach name digest bytes) before after = Sets before digest (Some bytes) after
Attached (calls.Mount name from digest) before after = ⊥
Attached (calls.Read name digest) before after = ⊥
Attached (calls.Detach name digest) before after = ⊥

-- a mount was given so many bytes, which are sound
pub record IsGiven (digest : List ℕ) (size : ℕ) (before after : Holds) : Type 0 where
  pub bytes : List ℕ
  pub sound : IsSound digest bytes
  pub long : size ≡ length bytes
  pub sets : Sets before digest (Some bytes) after

abbrev pub Mounted : PoolCall → ℕ → Holds → Holds → Type 0
Mounted calls.Holdings size before after = ⊥
Mounted (calls.Attach name digest bytes) size before after = ⊥
Mounted (calls.Mount name from digest) size before after = IsGiven digest size before after
Mounted (calls.Read name digest) size before after = ⊥
Mounted (calls.Detach name digest) size before after = ⊥

-- bytes were read: they are those that are held
abbrev pub WasRead : PoolCall → Option (List ℕ) → Holds → Type 0
WasRead calls.Holdings found holds = ⊥
WasRead (calls.Attach name digest bytes) found holds = ⊥
WasRead (calls.Mount name from digest) found holds = ⊥
WasRead (calls.Read name digest) found holds = holds digest ≡ found
WasRead (calls.Detach name digest) found holds = ⊥

-- nothing was found: of what was to be read, or of what a mount was to be given
abbrev pub FoundNone : PoolCall → Holds → Type 0
FoundNone calls.Holdings holds = ⊥
FoundNone (calls.Attach name digest bytes) holds = ⊥
FoundNone (calls.Mount name from digest) holds = ⊤
FoundNone (calls.Read name digest) holds = holds digest ≡ None
FoundNone (calls.Detach name digest) holds = ⊥

-- bytes were detached: none are held
abbrev pub Detached : PoolCall → Bool → Holds → Holds → Type 0
Detached calls.Holdings was before after = ⊥
Detached (calls.Attach name digest bytes) was before after = ⊥
Detached (calls.Mount name from digest) was before after = ⊥
Detached (calls.Read name digest) was before after = ⊥
Detached (calls.Detach name digest) was before after = (was ≡ is_some (before digest)) × Sets before digest None after

-- the pool answers so to a call for a repository, for which this is held before and after it
abbrev pub Takes : PoolReply → PoolCall → Holds → Holds → Type 0
Takes replies.Done asked before after = Attached asked before after
Takes (replies.Held list) asked before after = ⊥
Takes (replies.Size size) asked before after = Mounted asked size before after
Takes (replies.Content bytes) asked before after = WasRead asked (Some bytes) before × AreEqual before after
Takes replies.Nothing asked before after = FoundNone asked before × AreEqual before after
Takes (replies.Removed was) asked before after = Detached asked was before after
Takes replies.Failed asked before after = AreEqual before after
Takes replies.NoMemory asked before after = AreEqual before after

-- the bytes that a mount was given, of those that are held after it
abbrev pub mounted_of : PoolCall → Holds → Option (List ℕ)
mounted_of calls.Holdings holds = None
mounted_of (calls.Attach name digest bytes) holds = None
mounted_of (calls.Mount name from digest) holds = holds digest
mounted_of (calls.Read name digest) holds = None
mounted_of (calls.Detach name digest) holds = None

abbrev pub given : PoolReply → PoolCall → Holds → Option (List ℕ)
given replies.Done asked holds = None
given (replies.Held list) asked holds = None
given (replies.Size size) asked holds = mounted_of asked holds
given (replies.Content bytes) asked holds = None
given replies.Nothing asked holds = None
given (replies.Removed was) asked holds = None
given replies.Failed asked holds = None
given replies.NoMemory asked holds = None

-- an answer that a shard failed makes more of these, and no other does
abbrev pub Counts : PoolReply → ℕ → ℕ → Type 0
Counts replies.Done before after = after ≡ before
Counts (replies.Held list) before after = after ≡ before
Counts (replies.Size size) before after = after ≡ before
Counts (replies.Content bytes) before after = after ≡ before
Counts replies.Nothing before after = after ≡ before
Counts (replies.Removed was) before after = after ≡ before
Counts replies.Failed before after = Rise before after
Counts replies.NoMemory before after = after ≡ before

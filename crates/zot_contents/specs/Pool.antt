-- The plain pool: what repositories hold under digests, and what each call on it is answered and does. No link, record or store is in it.
use Rattle.std.specs.Prelude.{◌≡◌, ℕ, ◌≤◌, List, length, Option, Some, None, is_some, if◌then◌else◌, ◌⊎◌}
use Rattle.std.specs.Str.{bytes_eq}
use Rattle.zot_digest.specs.Digest.{IsDigest, is_sound}
use Rattle.zot_names.specs.Name.{IsName}
use Rattle.zot_outside.specs.Faults.{Rose}
use Rattle.zot_links.specs.Changes.{with_held}
use Rattle.zot_contents.specs.Holdings.{Lists}
use Rattle.zot_contents.specs.declared.pool_call.PoolCall.{PoolCall}
use Rattle.zot_contents.specs.declared.pool_call.PoolCall.TheVariants as calls
use Rattle.zot_contents.specs.declared.pool_reply.PoolReply.{PoolReply}
use Rattle.zot_contents.specs.declared.pool_reply.PoolReply.TheVariants as replies

-- under each digest, the bytes that each repository holds, or none
abbrev pub Holders : Type 0
Holders = List ℕ → List ℕ → Option (List ℕ)

-- each repository holds the same under each digest
abbrev pub AreSame : Holders → Holders → Type 0
AreSame old new = (digest name : List ℕ) → IsDigest digest → IsName name → new digest name ≡ old digest name

-- one repository holds these bytes under a digest now, or none, and all else is held as before
abbrev pub with_bytes : Holders → List ℕ → List ℕ → Option (List ℕ) → Holders
with_bytes held digest name bytes other = if bytes_eq other digest then with_held (held digest) name bytes else held other

-- ---- what a call leads to

-- what is answered, and what is held after it
pub record Outcome : Type 0 where
  pub reply : PoolReply
  pub held : Holders

-- attach: the repository holds these bytes
abbrev pub plain_attach : Holders → List ℕ → List ℕ → List ℕ → Outcome
plain_attach held name digest bytes = record { reply = replies.Done; held = with_bytes held digest name (Some bytes) }

-- bytes that are sound for a digest, or none
abbrev pub if_sound : List ℕ → Option (List ℕ) → Option (List ℕ)
if_sound digest None = None
if_sound digest (Some bytes) = if is_sound digest bytes then Some bytes else None

-- mount: the repository holds the sound bytes that another one holds, and their number is answered; where there are none, nothing changes
abbrev pub mount_of : Holders → List ℕ → List ℕ → Option (List ℕ) → Outcome
mount_of held name digest None = record { reply = replies.Nothing; held = held }
mount_of held name digest (Some bytes) = record { reply = replies.Size (length bytes); held = with_bytes held digest name (Some bytes) }

-- the answer to it: the number of bytes, or nothing
abbrev pub size_of : Option ℕ → PoolReply
size_of None = replies.Nothing
size_of (Some size) = replies.Size size

abbrev pub plain_mount : Holders → List ℕ → List ℕ → List ℕ → Outcome
plain_mount held name from digest = mount_of held name digest (if_sound digest (held digest from))

-- read: the bytes that a repository holds, if it is a holder
abbrev pub content_of : Option (List ℕ) → PoolReply
content_of None = replies.Nothing
content_of (Some bytes) = replies.Content bytes

abbrev pub plain_read : Holders → List ℕ → List ℕ → Outcome
plain_read held name digest = record { reply = content_of (held digest name); held = held }

-- detach: the repository holds nothing, and the answer says whether it held anything
abbrev pub plain_detach : Holders → List ℕ → List ℕ → Outcome
plain_detach held name digest = record { reply = replies.Removed (is_some (held digest name)); held = with_bytes held digest name None }

-- an answer is that of the outcome, and the holders after it are its holders
pub record Gives (outcome : Outcome) (reply : PoolReply) (new : Holders) : Type 0 where
  pub reply_is : reply ≡ outcome.reply
  pub held_is : AreSame outcome.held new

-- a call on the shard of this number is answered so by the plain pool, and leads from these holders to those
unfoldable pub IsPlain : ℕ → Holders → PoolCall → PoolReply → Holders → Type 0
IsPlain number old calls.Holdings reply new = Lists number old reply × AreSame old new
IsPlain number old (calls.Attach name digest bytes) reply new = Gives (plain_attach old name digest bytes) reply new
IsPlain number old (calls.Mount name from digest) reply new = Gives (plain_mount old name from digest) reply new
IsPlain number old (calls.Read name digest) reply new = Gives (plain_read old name digest) reply new
IsPlain number old (calls.Detach name digest) reply new = Gives (plain_detach old name digest) reply new

-- ---- the ways in which a call may be answered

-- what a shard of digests is: what is held under its digests, and how many calls of its store have failed
pub record ShardState : Type 0 where
  pub held : Holders
  pub faults : ℕ

-- as the plain pool answers; calls of the store behind the one that decides may have failed
pub record IsDone (number : ℕ) (old : ShardState) (call : PoolCall) (reply : PoolReply) (new : ShardState) : Type 0 where
  pub plain : IsPlain number old.held call reply new.held
  pub faults : old.faults ≤ new.faults

-- memory ran out, and nothing changed
pub record LacksMemory (old : ShardState) (reply : PoolReply) (new : ShardState) : Type 0 where
  pub reply_is : reply ≡ replies.NoMemory
  pub held : AreSame old.held new.held
  pub faults : new.faults ≡ old.faults

-- the store failed, and nothing changed but the count of its faults
pub record IsFault (old : ShardState) (reply : PoolReply) (new : ShardState) : Type 0 where
  pub reply_is : reply ≡ replies.Failed
  pub held : AreSame old.held new.held
  pub faults : Rose old.faults new.faults

-- a call on the shard of this number may be answered so, and leads from the old state to the new one
abbrev pub MayAnswer : ℕ → ShardState → PoolCall → PoolReply → ShardState → Type 0
MayAnswer number old call reply new = IsDone number old call reply new ⊎ LacksMemory old reply new ⊎ IsFault old reply new

-- Who holds what after many calls: it follows from what was held at the opening and from the calls under one's own names.
use Rattle.std.specs.Prelude.{◌≡◌, ℕ, List, [], ◌∷◌, map, Bool, true, false, Option, Some, None, IfSome, option_map, unwrap_or, if◌then◌else◌, ◌⊎◌}
use Rattle.std.specs.List.{AllByRecursion, filter}
use Rattle.zot_digest.specs.Digest.{IsDigest, is_sound}
use Rattle.zot_names.specs.Name.{IsName}
use Rattle.zot_history.specs.History.{Replays}
use Rattle.zot_contents.specs.Pool.{AreSame, Gives, Holders, MayAnswer, if_sound, mount_of, plain_attach, plain_detach, plain_read}
use Rattle.zot_contents.specs.Shards.{IsOfShard}
use Rattle.zot_contents.specs.declared.pool_call.PoolCall.{PoolCall}
use Rattle.zot_contents.specs.declared.pool_call.PoolCall.TheVariants as calls
use Rattle.zot_contents.specs.declared.pool_reply.PoolReply.{PoolReply}
use Rattle.zot_contents.specs.declared.pool_reply.PoolReply.TheVariants as replies

-- ---- one shard and all

-- all hold under the digests of one shard what its holders hold
abbrev pub Covers : ℕ → Holders → Holders → Type 0
Covers number shard all = (digest : List ℕ) → IsOfShard number digest → all digest ≡ shard digest

-- under the digests of the other shards the same is held as before
abbrev pub KeepsOtherShards : ℕ → Holders → Holders → Type 0
KeepsOtherShards number old new = (digest : List ℕ) → IsDigest digest → ¬ IsOfShard number digest → new digest ≡ old digest

-- ---- entries

-- an entry: a call, its answer and, of a mount that was taken, the bytes that the other repository held
pub record PoolEntry : Type 0 where
  pub call : PoolCall
  pub reply : PoolReply
  pub carried : Option (List ℕ)

-- what a mount found, if it was taken
abbrev pub if_taken : PoolReply → Option (List ℕ) → Option (List ℕ)
if_taken (replies.Size size) found = found
if_taken _ found = None

-- the bytes that an entry carries, by what was held before it
abbrev pub carried_by : Holders → PoolCall → PoolReply → Option (List ℕ)
carried_by held calls.Holdings reply = None
carried_by held (calls.Attach name digest bytes) reply = None
carried_by held (calls.Mount name from digest) reply = if_taken reply (if_sound digest (held digest from))
carried_by held (calls.Read name digest) reply = None
carried_by held (calls.Detach name digest) reply = None

-- the name of which a call speaks
abbrev pub name_in : PoolCall → Option (List ℕ)
name_in calls.Holdings = None
name_in (calls.Attach name digest bytes) = Some name
name_in (calls.Mount name from digest) = Some name
name_in (calls.Read name digest) = Some name
name_in (calls.Detach name digest) = Some name

-- the digest of a call
abbrev pub digest_in : PoolCall → Option (List ℕ)
digest_in calls.Holdings = None
digest_in (calls.Attach name digest bytes) = Some digest
digest_in (calls.Mount name from digest) = Some digest
digest_in (calls.Read name digest) = Some digest
digest_in (calls.Detach name digest) = Some digest

-- an entry leads from these holders to those, as the plain pool of some shard may answer it
pub record Moves (old : Holders) (entry : PoolEntry) (new : Holders) : Type 0 where
  pub named : IfSome (name_in entry.call) IsName
  pub digest : IfSome (digest_in entry.call) IsDigest
  pub number : ℕ
  pub before : ℕ
  pub after : ℕ
  pub answers : MayAnswer number (record { held = old; faults = before }) entry.call entry.reply (record { held = new; faults = after })
  pub carries : entry.carried ≡ carried_by old entry.call entry.reply

-- entries with the numbers of those who made them lead from these holders to those
abbrev pub History : Holders → List (ℕ × PoolEntry) → Holders → Type 0
History opening entries new = Replays (λ old seat entry later. Moves old entry later) opening entries new

-- ---- one's own names

-- an entry speaks of one's own names
abbrev pub is_own : (List ℕ → Bool) → PoolEntry → Bool
is_own mine entry = unwrap_or (option_map mine (name_in entry.call)) false

-- those entries, in order
abbrev pub own_entries : (List ℕ → Bool) → List (ℕ × PoolEntry) → List PoolEntry
own_entries mine entries = filter (is_own mine) (map (λ e. e.1) entries)

-- what is held under one's own names
abbrev pub under : (List ℕ → Bool) → Holders → Holders
under mine held digest name = if mine name then held digest name else None

-- none but one number made entries that speak of these names
abbrev pub IsOwner : ℕ → (List ℕ → Bool) → List (ℕ × PoolEntry) → Type 0
IsOwner owner mine entries = AllByRecursion (λ e. is_own mine e.1 ≡ true → e.0 ≡ owner) entries

-- a refusal
abbrev pub IsRefused : PoolReply → Type 0
IsRefused reply = (reply ≡ replies.NoMemory) ⊎ (reply ≡ replies.Failed)

-- how a call under one's own names is answered, and what is held under them after it, where a mount found these bytes
abbrev pub GivesOwn : Holders → PoolCall → Option (List ℕ) → PoolReply → Holders → Type 0
GivesOwn old calls.Holdings found reply new = AreSame old new
GivesOwn old (calls.Attach name digest bytes) found reply new = Gives (plain_attach old name digest bytes) reply new
GivesOwn old (calls.Mount name from digest) found reply new = IfSome found (λ bytes. is_sound digest bytes ≡ true) × Gives (mount_of old name digest found) reply new
GivesOwn old (calls.Read name digest) found reply new = Gives (plain_read old name digest) reply new
GivesOwn old (calls.Detach name digest) found reply new = Gives (plain_detach old name digest) reply new

-- an entry leads from what is held under one's own names to what is held under them after it
pub record MovesOwn (old : Holders) (entry : PoolEntry) (new : Holders) : Type 0 where
  pub named : IfSome (name_in entry.call) IsName
  pub digest : IfSome (digest_in entry.call) IsDigest
  pub answers : GivesOwn old entry.call entry.carried entry.reply new ⊎ (IsRefused entry.reply × AreSame old new)

-- ---- what follows from entries

-- what is held after a call that isn't refused
abbrev pub after_call : Holders → PoolCall → Option (List ℕ) → Holders
after_call held calls.Holdings found = held
after_call held (calls.Attach name digest bytes) found = (plain_attach held name digest bytes).held
after_call held (calls.Mount name from digest) found = (mount_of held name digest found).held
after_call held (calls.Read name digest) found = held
after_call held (calls.Detach name digest) found = (plain_detach held name digest).held

-- what is held after an answer: a refusal changes nothing
abbrev pub unless_refused : PoolReply → Holders → Holders → Holders
unless_refused replies.Failed old new = old
unless_refused replies.NoMemory old new = old
unless_refused _ old new = new

-- what is held after an entry
abbrev pub after_entry : Holders → PoolEntry → Holders
after_entry held entry = unless_refused entry.reply held (after_call held entry.call entry.carried)

-- what is held after all entries
abbrev pub after_all : Holders → List PoolEntry → Holders
after_all held [] = held
after_all held (entry ∷ entries) = after_all (after_entry held entry) entries

-- under one's own names the same is held
abbrev pub AreSameUnder : (List ℕ → Bool) → Holders → Holders → Type 0
AreSameUnder mine old new = (digest name : List ℕ) → IsDigest digest → IsName name → mine name ≡ true → new digest name ≡ old digest name

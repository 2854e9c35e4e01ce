-- What a pool is to its callers: what is held under all digests, where all of its parts tell, and the counts of their faults.
use Rattle.std.specs.Prelude.{◌≡◌, ◌≢◌, ℕ, ◌≤◌, List, [], map, sum, true, Option, Some, None, IfSome, is_some, option_map, slice_index, unwrap_or, if◌then◌else◌, ⊤}
use Rattle.std.specs.List.{All, list_all, range_with_len, slice_get}
use Rattle.std.specs.Global.{Vec}
use Rattle.std.specs.Option.{option_flatten}
use Rattle.std.specs.Vec.{vec_capacity}
use Rattle.zot_outside.specs.Faults.{Rose}
use Rattle.zot_outside.specs.Objects.{Objects}
use Rattle.zot_outside.specs.declared.stores.store.Store.{Ghosts}
use Rattle.zot_links.specs.Meaning.{held}
use Rattle.zot_contents.specs.Holders.{digest_in}
use Rattle.zot_contents.specs.Pool.{Holders}
use Rattle.zot_contents.specs.Shards.{AreTight, shard_of, shards}
use Rattle.zot_contents.specs.declared.pool_call.PoolCall.{PoolCall}
use Rattle.zot_contents.specs.declared.pool_reply.PoolReply.{PoolReply}
use Rattle.zot_contents.specs.declared.pool_reply.PoolReply.TheVariants as replies
use Rattle.zot_contents.specs.declared.shard.DigestShard.{DigestShard}
use Rattle.zot_pool.specs.declared.pool_error.PoolError.{PoolError}
use Rattle.zot_pool.specs.declared.pool_error.PoolError.TheVariants.{Failed, NoMemory}

-- ---- its shards

-- there are all shards, in the order of their numbers
abbrev pub AreNumbered : {S : Type 0} {G : Ghosts S} → List (DigestShard S G) → Type 0
AreNumbered owned = map (λ s. s.number) owned ≡ range_with_len 0 shards

-- there is room for as many parts, and none in it
pub record HasRoom {S : Type 0} (room : Vec S) : Type 0 where
  pub none : room.items ≡ []
  pub enough : shards ≤ vec_capacity room

-- the objects of each part, where it tells
abbrev pub objects_of : {S : Type 0} {G : Ghosts S} → List (DigestShard S G) → List (Option Objects)
objects_of {S} {G} owned = map (λ s. G.objects s.part) owned

-- the count of faults of each part
abbrev pub faults_of : {S : Type 0} {G : Ghosts S} → List (DigestShard S G) → List ℕ
faults_of {S} {G} owned = map (λ s. G.faults s.part) owned

-- all but the one with this number are as before
abbrev pub ChangesOnly : {X : Type 0} → ℕ → List X → List X → Type 0
ChangesOnly number old new = (other : ℕ) → other ≢ number → slice_get new other ≡ slice_get old other

-- ---- what is held

-- what is held by the objects of a part, where it tells
abbrev pub held_of : Option Objects → List ℕ → List ℕ → Option (List ℕ)
held_of None digest name = None
held_of (Some told) digest name = held told digest name

-- the objects of the part with this number, where it tells
abbrev pub part_at : List (Option Objects) → ℕ → Option Objects
part_at parts number = option_flatten (slice_get parts number)

-- what is held under each digest, by the objects of its shard's part
abbrev pub held_in : List (Option Objects) → Holders
held_in parts digest = held_of (part_at parts (shard_of digest)) digest

-- the same, where all parts tell
abbrev pub holds : List (Option Objects) → Option Holders
holds parts = if list_all is_some parts then Some (held_in parts) else None

-- a fact of what is held before and after, where all parts tell; they tell after as they did before
abbrev pub BothHold : Option Holders → Option Holders → (Holders → Holders → Type 0) → Type 0
BothHold None new P = new ≡ None
BothHold (Some old) None P = ⊥
BothHold (Some old) (Some new) P = P old new

-- the shard of a call's digest
abbrev pub number_in : PoolCall → ℕ
number_in call = unwrap_or (option_map shard_of (digest_in call)) 0

-- ---- faults

-- a fact for a part that failed
abbrev pub OnFailed : Option PoolError → Type 0 → Type 0
OnFailed None P = ⊤
OnFailed (Some Failed) P = P
OnFailed (Some NoMemory) P = ⊤

-- a fact for every other answer
abbrev pub UnlessFailed : Option PoolError → Type 0 → Type 0
UnlessFailed None P = P
UnlessFailed (Some Failed) P = ⊤
UnlessFailed (Some NoMemory) P = P

-- a fact for want of memory
abbrev pub OnNoMemory : Option PoolError → Type 0 → Type 0
OnNoMemory None P = ⊤
OnNoMemory (Some Failed) P = ⊤
OnNoMemory (Some NoMemory) P = P

-- why an answer is a refusal
abbrev pub refusal : PoolReply → Option PoolError
refusal replies.Failed = Some Failed
refusal replies.NoMemory = Some NoMemory
refusal _ = None

-- the count of one part rose, and with it that of all
pub record RoseAt (number : ℕ) (old new : List ℕ) : Type 0 where
  pub here : Rose (slice_index old number) (slice_index new number)
  pub whole : Rose (sum old) (sum new)

-- no count falls; the call is refused for a fault only where that of this part rose, and for memory only where none did
pub record HasPoolCause (number : ℕ) (old new : List ℕ) (error : Option PoolError) : Type 0 where
  pub later : slice_index old number ≤ slice_index new number
  pub whole : sum old ≤ sum new
  pub failed : OnFailed error (RoseAt number old new)
  pub quiet : OnNoMemory error (new ≡ old)

-- of a call that only reads no count rises but by its refusal
pub record HasReadCause (number : ℕ) (old new : List ℕ) (error : Option PoolError) : Type 0 where
  pub cause : HasPoolCause number old new error
  pub kept : UnlessFailed error (new ≡ old)

-- ---- equal bytes

-- each shard makes links of equal bytes
abbrev pub AreDeduped : {S : Type 0} {G : Ghosts S} → List (DigestShard S G) → Type 0
AreDeduped owned = All (λ s. s.dedupe ≡ true) owned

-- of the whole holders of each digest no two have equal bytes, but for none, where the part of its shard tells
abbrev pub AreTightPool : {S : Type 0} {G : Ghosts S} → List (DigestShard S G) → Type 0
AreTightPool {S} {G} owned = All (λ s. IfSome (G.objects s.part) (λ told. AreTight told s.number s.digests)) owned

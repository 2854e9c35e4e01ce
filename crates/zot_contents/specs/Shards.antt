-- A shard of digests: which digests are its own, and what it keeps of them in memory.
use Rattle.std.specs.Prelude.{◌≡◌, ◌≢◌, ℕ, ◌%◌, Bool, true, List, [], slice_index, Option, None, Some, IfSome, IsSome, unwrap_or, ⊤}
use Rattle.std.specs.Coded.{Coded, coded_list, coded_ℕ}
use Rattle.std.specs.FinMap as map
use Rattle.zot_digest.specs.ByteMap.{ByteMap}
use Rattle.zot_digest.specs.Digest.{IsDigest}
use Rattle.zot_names.specs.Name.{IsName}
use Rattle.zot_outside.specs.Objects.{Objects, Told}
use Rattle.zot_links.specs.Meaning.{IsTight, Links, Stands, line_at, links_code, object_at, origin_of}
use Rattle.zot_contents.specs.declared.pool_call.PoolCall.{PoolCall}
use Rattle.zot_contents.specs.declared.pool_call.PoolCall.TheVariants as calls

-- ---- its digests

-- how many shards there are
abbrev pub shards : ℕ
shards = 16

-- the shard of a digest: its first byte, modulo the number of shards
abbrev pub shard_of : List ℕ → ℕ
shard_of digest = slice_index digest 0 % shards

-- a digest of the shard
abbrev pub IsOfShard : ℕ → List ℕ → Type 0
IsOfShard number digest = IsDigest digest × (shard_of digest ≡ number)

-- a call is one on a digest of the shard, or on all of them
abbrev pub IsCallOf : ℕ → PoolCall → Type 0
IsCallOf number calls.Holdings = ⊤
IsCallOf number (calls.Attach name digest bytes) = IsOfShard number digest
IsCallOf number (calls.Mount name from digest) = IsOfShard number digest
IsCallOf number (calls.Read name digest) = IsOfShard number digest
IsCallOf number (calls.Detach name digest) = IsOfShard number digest

-- ---- what is kept in memory

-- the holders under each digest that has some
abbrev pub Kept : Type 0
Kept = ByteMap Links

abbrev pub kept_code : Coded Kept
kept_code = map.code (coded_list coded_ℕ) links_code

-- the holders under a digest
abbrev pub links_at : Kept → List ℕ → Links
links_at kept digest = unwrap_or (map.get kept digest) map.empty

-- what is kept of a digest stands for its objects, where they are told
abbrev pub StandsAt : Option Objects → Kept → List ℕ → Type 0
StandsAt objects kept digest = IfSome objects (λ told. Stands told digest (links_at kept digest))

-- so it does for each digest of the shard
abbrev pub AllStand : Option Objects → ℕ → Kept → Type 0
AllStand objects number kept = (digest : List ℕ) → IsOfShard number digest → StandsAt objects kept digest

-- what is kept is of digests of the shard
abbrev pub AllOwn : ℕ → Kept → Type 0
AllOwn number kept = (digest : List ℕ) → IsSome (map.get kept digest) → IsOfShard number digest

-- nothing more is kept than before, but for one digest
abbrev pub KeepsOnly : Kept → List ℕ → Kept → Type 0
KeepsOnly old digest new = (other : List ℕ) → IsSome (map.get new other) → other ≢ digest → IsSome (map.get old other)

-- ---- equal bytes

-- of the whole holders of each digest of the shard no two have equal bytes, but for none
abbrev pub AreTight : Objects → ℕ → Kept → Type 0
AreTight objects number kept = (digest : List ℕ) → IsOfShard number digest → IsTight objects digest (links_at kept digest)

-- with dedupe they stay so
abbrev pub KeepsTight : Bool → ℕ → Option Objects → Kept → Option Objects → Kept → Type 0
KeepsTight dedupe number before kept after later = dedupe ≡ true → Told before after (λ old new. AreTight old number kept → AreTight new number later)

-- the object of a repository is whole: it has one, and no line of the record names an origin
pub record IsWholeObject (objects : Objects) (digest name bytes : List ℕ) : Type 0 where
  pub named : IsName name
  pub has : object_at objects digest name ≡ Some bytes
  pub whole : origin_of (line_at objects digest name) ≡ None

-- of the whole objects of each digest of the shard no two have equal bytes, but for none
abbrev pub IsTightTree : Objects → ℕ → Type 0
IsTightTree objects number = (digest name other bytes : List ℕ) → IsOfShard number digest → IsWholeObject objects digest name bytes → IsWholeObject objects digest other bytes
    → bytes ≢ [] → name ≡ other

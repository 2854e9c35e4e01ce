-- Lists of what is held.
use Rattle.std.specs.Prelude.{◌≡◌, ℕ, List, ◌++◌, map, length, Option, Some, IsSome}
use Rattle.std.specs.List.{Contains}
use Rattle.std.specs.List.Sorted.{IsStrictlySortedBy}
use Rattle.zot_digest.specs.ByteMap.{byte_cmp}
use Rattle.zot_names.specs.Name.{IsName}
use Rattle.zot_contents.specs.Shards.{IsOfShard}
use Rattle.zot_contents.specs.declared.holding.Holding.{Holding}
use Rattle.zot_contents.specs.declared.pool_reply.PoolReply.{PoolReply}
use Rattle.zot_contents.specs.declared.pool_reply.PoolReply.TheVariants as replies

-- a digest and then a name
abbrev pub key_of : Holding → List ℕ
key_of holding = holding.digest ++ holding.name

-- what a holding says is so: the repository holds so many bytes under the digest, which is one of the shard
pub record IsHeld (number : ℕ) (held : List ℕ → List ℕ → Option (List ℕ)) (holding : Holding) : Type 0 where
  pub digest : IsOfShard number holding.digest
  pub bytes : List ℕ
  pub holds : held holding.digest holding.name ≡ Some bytes
  pub size : holding.size ≡ length bytes

-- the holdings are all that is held under the digests of a shard, in the order of the digests and, under one, of the names
pub record AreAllHeld (number : ℕ) (held : List ℕ → List ℕ → Option (List ℕ)) (holdings : List Holding) : Type 0 where
  pub listed : (holding : Holding) → Contains holdings holding → IsHeld number held holding
  pub all : (digest name : List ℕ) → IsOfShard number digest → IsName name → IsSome (held digest name)
      → (holding : Holding) × Contains holdings holding × (holding.digest ≡ digest) × (holding.name ≡ name)
  pub ordered : IsStrictlySortedBy byte_cmp (map key_of holdings)

-- an answer lists them
abbrev pub Lists : ℕ → (List ℕ → List ℕ → Option (List ℕ)) → PoolReply → Type 0
Lists number held reply = (holdings : List Holding) × (reply ≡ replies.Held holdings) × AreAllHeld number held holdings

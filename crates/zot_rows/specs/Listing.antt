-- What is held for the repositories of each row, listed row by row, and why it isn't.
use Rattle.std.specs.Prelude.{◌≡◌, ◌≢◌, ◌<◌, ℕ, ◌*◌, ◌==◌, List, ◌++◌, length, map, Option, Some, IfSome, IsSome}
use Rattle.std.specs.Global.{Vec}
use Rattle.std.specs.List.{All, AllPairs, filter, range_with_len, slice_get}
use Rattle.zot_contents.specs.Listing.{place_of}
use Rattle.zot_contents.specs.Pool.{Holders}
use Rattle.zot_contents.specs.declared.holding.Holding.{Holding}
use Rattle.zot_contents.specs.Shards.{shard_of}
use Rattle.zot_repo.specs.Opening.{AreAllOf, AreOwn, IsHeldBy, IsListed}
use Rattle.zot_digest.specs.Digest.{IsDigest}
use Rattle.zot_names.specs.Name.{IsName}
use Rattle.zot_layout.specs.Rows.{IsOfRow}
use Rattle.zot_pool.specs.Opening.{RosePart}
use Rattle.zot_pool.specs.declared.pool_error.PoolError.{PoolError}
use Rattle.zot_pool.specs.declared.pool_error.PoolError.TheVariants as pools
use Rattle.zot_siphash.specs.Owners as owners
use Rattle.zot_siphash.specs.SipHash.{siphash}
use Rattle.zot_rows.specs.declared.rows_open_error.RowsOpenError.{RowsOpenError}
use Rattle.zot_rows.specs.declared.rows_open_error.RowsOpenError.TheVariants as errors

-- ---- row by row

-- how many rows so many members have
abbrev pub rows_of : ℕ → ℕ
rows_of members = 8 * members

-- the number of the row that a name has, under a key and with so many members
abbrev pub row_at : List ℕ → ℕ → List ℕ → ℕ
row_at key members name = owners.row (siphash key name) members

-- those holdings whose repositories are of the row, in their order
abbrev pub of_row : List ℕ → ℕ → ℕ → List Holding → List Holding
of_row key members row holdings = filter (λ h. row_at key members h.name == row) holdings

-- these holdings, row by row
abbrev pub by_row : List ℕ → ℕ → List Holding → List (List Holding)
by_row key members holdings = map (λ row. of_row key members row holdings) (range_with_len 0 (rows_of members))

-- the lists that lists in memory are
abbrev pub lists_of : List (Vec Holding) → List (List Holding)
lists_of lists = map (λ list. list.items) lists

-- a fact of each row's list, by the row's number
abbrev pub EachRow : (ℕ → List Holding → Type 0) → List (List Holding) → Type 0
EachRow P lists = (row : ℕ) (holdings : List Holding) → slice_get lists row ≡ Some holdings → P row holdings

-- ---- one row's list

-- no two holdings are of the same repository and digest
abbrev pub AreApart : List Holding → Type 0
AreApart holdings = AllPairs (λ h other. place_of h ≢ place_of other) holdings

-- ---- all lists

-- each row's list has holdings of its repositories alone
abbrev pub EachOwn : List ℕ → ℕ → List (List Holding) → Type 0
EachOwn key members lists = EachRow (λ row. AreOwn (IsOfRow key members row)) lists

-- no two of a row's holdings are of the same repository and digest
abbrev pub EachApart : List (List Holding) → Type 0
EachApart lists = EachRow (λ row. AreApart) lists

-- each row's list has all that is held for its repositories
abbrev pub EachHeld : List ℕ → ℕ → Holders → List (List Holding) → Type 0
EachHeld key members held lists = EachRow (λ row. AreAllOf (IsOfRow key members row) held) lists

-- ---- why nothing is listed

-- a fact of the shard whose part failed, or another one where memory ran out. There is no other error
abbrev pub OnShardFault : RowsOpenError → (ℕ → Type 0) → Type 0 → Type 0
OnShardFault (errors.ShardFault number) P Q = P number
OnShardFault errors.NoMemory P Q = Q
OnShardFault (errors.RowFault number) P Q = ⊥
OnShardFault (errors.BadIndex path text) P Q = ⊥
OnShardFault (errors.BadMeta path text) P Q = ⊥

-- a part of a shard failed, whose count rose, and no other did; or memory ran out, and none rose
abbrev pub HasListCause : List ℕ → List ℕ → RowsOpenError → Type 0
HasListCause old new error = OnShardFault error (RosePart old new) (new ≡ old)

-- the error for what the shard with this number answers
abbrev pub list_error : ℕ → PoolError → RowsOpenError
list_error number pools.Failed = errors.ShardFault number
list_error number pools.NoMemory = errors.NoMemory

-- ---- how far the listing has come

-- the holdings are all that is held under the digests of the shards below a number
pub record AreHeldBelow (number : ℕ) (held : Holders) (holdings : List Holding) : Type 0 where
  pub listed : All (IsHeldBy held) holdings
  pub all : (digest name : List ℕ) → IsDigest digest → shard_of digest < number → IsName name → IsSome (held digest name) → IsListed holdings digest name

-- a holding is of a shard below a number
pub record IsBelow (number : ℕ) (holding : Holding) : Type 0 where
  pub named : IsName holding.name
  pub digest_is : IsDigest holding.digest
  pub below : shard_of holding.digest < number

-- the shards below a number were read, and hold these, where the pool tells
pub record AreRead (number : ℕ) (told : Option Holders) (holdings : List Holding) : Type 0 where
  pub below : All (IsBelow number) holdings
  pub apart : AreApart holdings
  pub held : IfSome told (λ held. AreHeldBelow number held holdings)

-- the lists are, row by row, what the shards below a number hold
pub record AreListed (key : List ℕ) (members number : ℕ) (told : Option Holders) (lists : List (List Holding)) : Type 0 where
  pub holdings : List Holding
  pub read : AreRead number told holdings
  pub lists_are : lists ≡ by_row key members holdings

-- of these holdings those before the ones that are left were put behind those of their rows
pub record ArePut (key : List ℕ) (members : ℕ) (old new : List (Vec Holding)) (holdings left : List Holding) : Type 0 where
  pub many : length new ≡ rows_of members
  pub taken : List Holding
  pub named : All (λ h. IsName h.name) taken
  pub split : taken ++ left ≡ holdings
  pub put : (before : List Holding) → lists_of old ≡ by_row key members before → lists_of new ≡ by_row key members (before ++ taken)

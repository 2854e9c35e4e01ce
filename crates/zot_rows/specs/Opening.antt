-- What opening the rows of a cluster finds and answers.
use Rattle.std.specs.Prelude.{◌≡◌, ◌⊎◌, ℕ, ◌+◌, ◌<◌, List, [], ◌∷◌, ◌++◌, length, get_or, Option, Ok, Err, IfSome, slice_index, ⊤}
use Rattle.zot_contents.specs.Pool.{Holders}
use Rattle.zot_contents.specs.declared.holding.Holding.{Holding}
use Rattle.zot_layout.specs.Causes.{HasLayoutCause}
use Rattle.zot_layout.specs.Rows.{Opened, OpensRow}
use Rattle.zot_layout.specs.declared.layout_error.LayoutError.{LayoutError}
use Rattle.zot_layout.specs.declared.layout_error.LayoutError.TheVariants as layouts
use Rattle.zot_outside.specs.Faults.{Rose}
use Rattle.zot_outside.specs.Objects.{Objects}
use Rattle.zot_outside.specs.declared.stores.store.Store.{Ghosts}
use Rattle.zot_pool.specs.Opening.{AllHaveMeaning, IsFirstBadPart, RosePart}
use Rattle.zot_pool.specs.Pools.{ChangesOnly, part_at}
use Rattle.zot_pool.specs.declared.pool_open_error.PoolOpenError.{PoolOpenError}
use Rattle.zot_pool.specs.declared.pool_open_error.PoolOpenError.TheVariants as pools
use Rattle.zot_repo.specs.Opening.{AreAllOf, IsOpenedRow}
use Rattle.zot_repo.specs.RowGoing.{IsOwn}
use Rattle.zot_repo.specs.Rows.{AgreesRow, Tables, state_of}
use Rattle.zot_repo.specs.declared.row_config.RowConfig.{RowConfig}
use Rattle.zot_repo.specs.declared.shard.RepoShard.{RepoShard}
use Rattle.zot_rows.specs.Agreed.{IsRow}
use Rattle.zot_rows.specs.Histories.{RowStates}
use Rattle.zot_rows.specs.Listing.{EachHeld, rows_of}
use Rattle.zot_rows.specs.declared.rows_open_error.RowsOpenError.{RowsOpenError}
use Rattle.zot_rows.specs.declared.rows_open_error.RowsOpenError.TheVariants as errors

-- ---- the plain rows

-- each row is what the objects of its part hold of its repositories, with the blobs that are held for them, where its part tells
abbrev pub AreOpenedRows : RowConfig → ℕ → List (Option Objects) → Holders → RowStates → Type 0
AreOpenedRows config moment parts held rows =
    (number : ℕ) → number < rows_of config.members → IfSome (part_at parts number) (λ told. IsOpenedRow told moment (IsOwn config number) held (rows number))

-- ---- why the rows aren't opened

-- the error for what opening the pool answers
abbrev pub pool_error : PoolOpenError → RowsOpenError
pool_error (pools.BadMeta path text) = errors.BadMeta path text
pool_error (pools.Failed number) = errors.ShardFault number
pool_error pools.NoMemory = errors.NoMemory

-- the error for what the row with this number answers
abbrev pub row_error : ℕ → LayoutError → RowsOpenError
row_error number (layouts.BadIndex path text) = errors.BadIndex path text
row_error number (layouts.BadMeta path text) = errors.BadMeta path text
row_error number layouts.Failed = errors.RowFault number
row_error number layouts.NoMemory = errors.NoMemory

-- a fact of the row whose part failed, or another one for every other error
abbrev pub OnRowFault : RowsOpenError → (ℕ → Type 0) → Type 0 → Type 0
OnRowFault (errors.RowFault number) P Q = P number
OnRowFault (errors.ShardFault number) P Q = Q
OnRowFault errors.NoMemory P Q = Q
OnRowFault (errors.BadIndex path text) P Q = Q
OnRowFault (errors.BadMeta path text) P Q = Q

-- a fact of the shard whose part failed, or another one for every other error
abbrev pub OnPoolFault : RowsOpenError → (ℕ → Type 0) → Type 0 → Type 0
OnPoolFault (errors.ShardFault number) P Q = P number
OnPoolFault (errors.RowFault number) P Q = Q
OnPoolFault errors.NoMemory P Q = Q
OnPoolFault (errors.BadIndex path text) P Q = Q
OnPoolFault (errors.BadMeta path text) P Q = Q

-- the count of one row's part rose, and no other's
pub record RoseRow (members : ℕ) (old new : List ℕ) (number : ℕ) : Type 0 where
  pub within : number < rows_of members
  pub here : Rose (slice_index old number) (slice_index new number)
  pub others : ChangesOnly number old new

-- the count of the part that is named rose, of a row or of a shard, and no other; where none is named, all stay
pub record HasRowsCause (members : ℕ) (old new shards_old shards_new : List ℕ) (error : RowsOpenError) : Type 0 where
  pub rows : OnRowFault error (RoseRow members old new) (new ≡ old)
  pub shards : OnPoolFault error (RosePart shards_old shards_new) (shards_new ≡ shards_old)

-- the objects hold a row all of whose repositories have a meaning
pub record AreWhole (objects : Objects) (moment : ℕ) (Own : List ℕ → Type 0) : Type 0 where
  pub opened : List Opened
  pub opens : OpensRow objects Own moment (Ok opened)

-- so does each row's part, where it tells
abbrev pub AllAreWhole : RowConfig → ℕ → List (Option Objects) → Type 0
AllAreWhole config moment parts = (number : ℕ) → number < rows_of config.members → IfSome (part_at parts number) (λ told. AreWhole told moment (IsOwn config number))

-- the first row that holds an object without a meaning is refused for it, where the parts tell
pub record IsFirstBadRow (config : RowConfig) (moment : ℕ) (parts : List (Option Objects)) (fault : LayoutError) : Type 0 where
  pub number : ℕ
  pub within : number < rows_of config.members
  pub here : IfSome (part_at parts number) (λ told. OpensRow told (IsOwn config number) moment (Err fault))
  pub before : (other : ℕ) → other < number → IfSome (part_at parts other) (λ told. AreWhole told moment (IsOwn config other))

-- a fact of the row's object that is refused
abbrev pub OnBadRow : RowsOpenError → (LayoutError → Type 0) → Type 0
OnBadRow (errors.BadIndex path text) P = P (layouts.BadIndex path text)
OnBadRow (errors.BadMeta path text) P = P (layouts.BadMeta path text)
OnBadRow (errors.RowFault number) P = ⊤
OnBadRow (errors.ShardFault number) P = ⊤
OnBadRow errors.NoMemory P = ⊤

-- an object that is refused has no meaning: it is of the first shard that has such a digest, or, where none has, of the first row that holds such an object
abbrev pub RefusesObject : RowConfig → ℕ → List (Option Objects) → List (Option Objects) → RowsOpenError → Type 0
RefusesObject config moment parts shards (errors.BadIndex path text) = AllHaveMeaning shards × IsFirstBadRow config moment parts (layouts.BadIndex path text)
RefusesObject config moment parts shards (errors.BadMeta path text) = IsFirstBadPart shards path text ⊎ (AllHaveMeaning shards × IsFirstBadRow config moment parts (layouts.BadMeta path text))
RefusesObject config moment parts shards (errors.RowFault number) = ⊤
RefusesObject config moment parts shards (errors.ShardFault number) = ⊤
RefusesObject config moment parts shards errors.NoMemory = ⊤

-- ---- how they are opened, row by row

-- a row over a part, with its number and with what is listed for it
pub record IsOpenedOver {S : Type 0} {G : Ghosts S} (config : RowConfig) (moment : ℕ) (lists : List (List Holding)) (number : ℕ) (part : S) (row : RepoShard S G) : Type 0 where
  pub objects : G.objects row.core.part ≡ G.objects part
  pub faults : G.faults row.core.part ≡ G.faults part
  pub is : IsRow config number row
  pub failed : row.failed ≡ 0
  pub opened : row.core.opened ≡ moment
  pub whole : IfSome (G.objects part) (λ told. AreWhole told moment (IsOwn config number))
  pub agrees : (held : Holders) → AreAllOf (IsOwn config number) held (get_or lists number []) → AgreesRow (IsOwn config number) row.core.repos held
  pub state : IfSome (G.objects part) (λ told. (held : Holders) → AreAllOf (IsOwn config number) held (get_or lists number []) → IsOpenedRow told moment (IsOwn config number) held (state_of row.core.repos held 0))

-- rows over parts, in their order, with the numbers from this one on
abbrev pub AreOpenedOver : {S : Type 0} {G : Ghosts S} → RowConfig → ℕ → List (List Holding) → ℕ → List S → List (RepoShard S G) → Type 0
AreOpenedOver config moment lists number [] [] = ⊤
AreOpenedOver config moment lists number [] (row ∷ rows) = ⊥
AreOpenedOver config moment lists number (part ∷ parts) [] = ⊥
AreOpenedOver config moment lists number (part ∷ parts) (row ∷ rows) = IsOpenedOver config moment lists number part row × AreOpenedOver config moment lists (number + 1) parts rows

-- the rows over the first parts are opened; the next part's row isn't, and its part is given back with the rest
pub record StopsAtRow {S : Type 0} {G : Ghosts S} (config : RowConfig) (moment : ℕ) (lists : List (List Holding)) (parts : List S) (rows : List (RepoShard S G)) (left : List S) (error : RowsOpenError) : Type 0 where
  pub done : List S
  pub part : S
  pub back : S
  pub rest : List S
  pub split : parts ≡ done ++ (part ∷ rest)
  pub left_is : left ≡ back ∷ rest
  pub opened : AreOpenedOver config moment lists 0 done rows
  pub objects : G.objects back ≡ G.objects part
  pub fault : LayoutError
  pub error_is : error ≡ row_error (length done) fault
  pub cause : HasLayoutCause {A = Tables} (G.faults part) (G.faults back) (Err fault)
  pub bad : IfSome (G.objects part) (λ told. OpensRow told (IsOwn config (length done)) moment (Err fault))

-- the rows are opened over all parts, with all that is held, where that is told
pub record AreAllOpened {S : Type 0} {G : Ghosts S} (config : RowConfig) (moment : ℕ) (told : Option Holders) (parts : List S) (rows : List (RepoShard S G)) : Type 0 where
  pub lists : List (List Holding)
  pub many : length lists ≡ rows_of config.members
  pub held : IfSome told (λ held. EachHeld config.key config.members held lists)
  pub opened : AreOpenedOver config moment lists 0 parts rows

-- The rows of a cluster, and what a pool holds for them.
use Rattle.std.specs.Prelude.{◌≡◌, ℕ, ◌*◌, ◌≤◌, List, [], length, IfSome}
use Rattle.std.specs.Global.{Vec}
use Rattle.std.specs.List.{All, slice_get}
use Rattle.std.specs.Vec.{vec_capacity}
use Rattle.zot_contents.specs.Pool.{Holders}
use Rattle.zot_outside.specs.declared.stores.store.Store.{Ghosts}
use Rattle.zot_repo.specs.RowGoing.{IsOwn, StandsForTables}
use Rattle.zot_repo.specs.Rows.{AgreesRow}
use Rattle.zot_repo.specs.declared.row_config.RowConfig.{RowConfig}
use Rattle.zot_repo.specs.declared.shard.RepoShard.{RepoShard}

-- a row has this number and this configuration
pub record IsRow {S : Type 0} {G : Ghosts S} (config : RowConfig) (number : ℕ) (row : RepoShard S G) : Type 0 where
  pub number_is : row.core.row ≡ number
  pub config_is : row.core.config ≡ config

-- there are eight rows for each member, in the order of their numbers, all with this configuration
pub record AreRows {S : Type 0} {G : Ghosts S} (config : RowConfig) (rows : List (RepoShard S G)) : Type 0 where
  pub many : length rows ≡ 8 * config.members
  pub each : (number : ℕ) → IfSome (slice_get rows number) (IsRow config number)

-- what is held for each row's own repositories fits its tables
abbrev pub AreAgreed : {S : Type 0} {G : Ghosts S} → RowConfig → List (RepoShard S G) → Holders → Type 0
AreAgreed config rows held = (number : ℕ) → IfSome (slice_get rows number) (λ row. AgreesRow (IsOwn config number) row.core.repos held)

-- there is room for as many parts as rows, and none in it
pub record HasRoom {S : Type 0} (config : RowConfig) (room : Vec S) : Type 0 where
  pub none : room.items ≡ []
  pub enough : 8 * config.members ≤ vec_capacity room

-- each row's objects stand for what it keeps of its repositories, where its part tells. The bytes of blobs lie in the pool's parts
abbrev pub AllStand : {S : Type 0} {G : Ghosts S} → List (RepoShard S G) → Type 0
AllStand {S} {G} rows = All (λ r. StandsForTables (G.objects r.core.part) r.core.opened (IsOwn r.core.config r.core.row) r.core.repos) rows

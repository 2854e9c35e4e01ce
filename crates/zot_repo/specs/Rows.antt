-- What a row keeps in memory of its repositories, and the plain row that this stands for beside what a pool of digests holds for them.
use Rattle.std.specs.Prelude.{◌≡◌, ◌≢◌, ◌==◌, ◌&&◌, ℕ, nat_lt, Bool, if◌then◌else◌, List, length, Option, Some, None, IsSome, unwrap_or, option_map}
use Rattle.std.specs.Coded.{Coded}
use Rattle.std.specs.FinMap as finite
use Rattle.std.specs.List.{filter_map, list_all}
use Rattle.zot_contents.specs.Pool.{Holders}
use Rattle.zot_contents.specs.declared.pool_call.PoolCall.{PoolCall}
use Rattle.zot_contents.specs.declared.pool_reply.PoolReply.{PoolReply}
use Rattle.zot_digest.specs.ByteMap.{ByteMap, map_of}
use Rattle.zot_manifests.specs.Codes.{bytes_code}
use Rattle.zot_model.specs.State.{RepoState, RowState}
use Rattle.zot_table.specs.Standing.{Agrees, AreEqual, Holds, repo_of}
use Rattle.zot_table.specs.Tables.{RepoTable, fresh_table, repo_table_code}
use Rattle.zot_row.specs.Turns.{Takes}

-- ---- what is kept

-- the tables of the repositories, by their names
abbrev pub Tables : Type 0
Tables = ByteMap RepoTable

abbrev pub tables_code : Coded Tables
tables_code = finite.code bytes_code repo_table_code

-- the table of a name, which is a fresh one where there is none
abbrev pub table_at : Tables → List ℕ → RepoTable
table_at tables name = unwrap_or (finite.get tables name) fresh_table

-- this table stands under the name, or none where it is a fresh one; under every other name stands what stood there
pub record SetsTable (old : Tables) (name : List ℕ) (table : RepoTable) (new : Tables) : Type 0 where
  pub here : table_at new name ≡ table
  pub others : (other : List ℕ) → other ≢ name → finite.get new other ≡ finite.get old other

-- a fresh table stands under no name, but for this one, where it is given
abbrev pub NoneFresh : Option (List ℕ) → Tables → Type 0
NoneFresh wanted tables = (name : List ℕ) → finite.get tables name ≡ Some fresh_table → wanted ≡ Some name

-- ---- what is held

-- whether these are the bytes of a digest
abbrev pub is_digest : List ℕ → Bool
is_digest digest = (length digest == 32) && list_all (λ b. nat_lt b 256) digest

-- what is held for the repository of a name
abbrev pub under : Holders → List ℕ → Holds
under held name digest = if is_digest digest then held digest name else None

-- ---- the plain row

-- its repositories, with the bytes that are held for them
abbrev pub repos_of : Tables → Holders → ByteMap RepoState
repos_of tables held = map_of (filter_map (λ e. option_map (λ repo. (e.0, repo)) (Some (repo_of e.1 (under held e.0)))) (finite.entries tables))

-- the plain row, with so many storage faults
abbrev pub state_of : Tables → Holders → ℕ → RowState
state_of tables held faults = record { repos = repos_of tables held; faults = faults }

-- what is held for the row's own repositories fits their tables, and no other has one
pub record AgreesRow (IsOwn : List ℕ → Type 0) (tables : Tables) (held : Holders) : Type 0 where
  pub agrees : (name : List ℕ) → IsOwn name → Agrees (table_at tables name) (under held name)
  pub own : (name : List ℕ) → IsSome (finite.get tables name) → IsOwn name

-- nothing is held
abbrev pub none_held : Holders
none_held digest name = None

-- ---- what the pool answers

-- the pool answers so to a call for the repository of a name, and the same is held as before for the row's others
pub record TakesRow (IsOwn : List ℕ → Type 0) (name : List ℕ) (answered : PoolReply) (asked : PoolCall) (held behind : Holders) : Type 0 where
  pub here : Takes answered asked (under held name) (under behind name)
  pub others : (other : List ℕ) → IsOwn other → other ≢ name → AreEqual (under held other) (under behind other)

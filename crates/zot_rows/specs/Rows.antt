-- What the rows of a cluster are to their callers: which row a name has, and the plain rows that they stand for beside what the pool holds.
use Rattle.std.specs.Prelude.{◌≡◌, ℕ, ◌+◌, ◌≤◌, List, map, sum, Option, IfSome, option_map, slice_index, unwrap_or}
use Rattle.std.specs.List.{All, slice_get}
use Rattle.zot_contents.specs.Pool.{Holders}
use Rattle.zot_repo.specs.Rows.{state_of}
use Rattle.zot_repo.specs.Shards.{HasShardCause}
use Rattle.zot_repo.specs.declared.row_config.RowConfig.{RowConfig}
use Rattle.zot_repo.specs.declared.shard.RepoShard.{RepoShard}
use Rattle.zot_model.specs.State.{RowState, empty_row}
use Rattle.zot_model.specs.declared.reply.Reply.{Reply}
use Rattle.zot_outside.specs.Faults.{Rose}
use Rattle.zot_outside.specs.declared.stores.store.Store.{Ghosts}
use Rattle.zot_pool.specs.Pools.{faults_of, holds, objects_of}
use Rattle.zot_siphash.specs.Owners as owners
use Rattle.zot_siphash.specs.SipHash.{siphash}
use Rattle.zot_rows.specs.Agreed.{AreAgreed}
use Rattle.zot_rows.specs.Histories.{RowStates}
use Rattle.zot_rows.specs.declared.rows.Rows.{Rows}

-- ---- which row

-- the number of the row that a name has
abbrev pub row_by : RowConfig → List ℕ → ℕ
row_by config name = owners.row (siphash config.key name) config.members

abbrev pub row_for : {S : Type 0} {G : Ghosts S} → Rows S G → List ℕ → ℕ
row_for rows = row_by rows.config

-- ---- what they stand for

-- the storage faults of a row: of its part, and of the pool's answers to it
abbrev pub faults_of_row : {S : Type 0} {G : Ghosts S} → RepoShard S G → ℕ
faults_of_row {S} {G} row = G.faults row.core.part + row.failed

-- the plain row that a row stands for, beside what the pool holds
abbrev pub state_beside : {S : Type 0} {G : Ghosts S} → Holders → RepoShard S G → RowState
state_beside held row = state_of row.core.repos held (faults_of_row row)

-- the plain rows, by their numbers
abbrev pub states_beside : {S : Type 0} {G : Ghosts S} → Holders → List (RepoShard S G) → RowStates
states_beside held rows number = unwrap_or (option_map (state_beside held) (slice_get rows number)) empty_row

-- the same, where the pool's parts tell
abbrev pub states_of : {S : Type 0} {G : Ghosts S} → Rows S G → Option RowStates
states_of rows = option_map (λ held. states_beside held rows.rows.items) (holds (objects_of rows.pool.shards.items))

-- what the pool holds fits what the rows keep, where its parts tell
abbrev pub AreAgreedIn : {S : Type 0} {G : Ghosts S} → Rows S G → Type 0
AreAgreedIn rows = IfSome (holds (objects_of rows.pool.shards.items)) (AreAgreed rows.config rows.rows.items)

-- ---- faults

-- how many calls of the pool's parts have failed
abbrev pub pool_faults : {S : Type 0} {G : Ghosts S} → Rows S G → ℕ
pool_faults rows = sum (faults_of rows.pool.shards.items)

-- the count of faults of each row's part
abbrev pub part_faults : {S : Type 0} {G : Ghosts S} → Rows S G → List ℕ
part_faults {S} {G} rows = map (λ r. G.faults r.core.part) rows.rows.items

-- where the reply is that the storage failed, the count of the part of this row rose, or that of all of the pool's parts; else that of the row's part stayed
abbrev pub HasRowFault : ℕ → Reply → List ℕ → List ℕ → ℕ → ℕ → Type 0
HasRowFault number reply parts new pooled later = HasShardCause reply (slice_index parts number) (slice_index new number) pooled later

-- how often each row was answered that a shard failed
abbrev pub failed_in : {S : Type 0} {G : Ghosts S} → Rows S G → List ℕ
failed_in rows = map (λ r. r.failed) rows.rows.items

-- the pool's parts have no fewer faults, and a row was answered that a shard failed only where they have more
pub record HaveCause (before after : ℕ) (failed fails : List ℕ) : Type 0 where
  pub later : before ≤ after
  pub quiet : ¬ Rose before after → fails ≡ failed

-- ---- the opening

-- the moment at which each row was opened
abbrev pub opened_in : {S : Type 0} {G : Ghosts S} → Rows S G → List ℕ
opened_in rows = map (λ r. r.core.opened) rows.rows.items

-- all rows were opened at this moment
abbrev pub AreOpenedAt : {S : Type 0} {G : Ghosts S} → ℕ → Rows S G → Type 0
AreOpenedAt moment rows = All (λ one. one ≡ moment) (opened_in rows)

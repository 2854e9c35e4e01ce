-- A cluster that was opened over its parts.
use Rattle.std.specs.Prelude.{◌≡◌, ℕ, Bool, true, List, map, IfSome}
use Rattle.std.specs.List.{All}
use Rattle.zot_repo.specs.declared.row_config.RowConfig.{RowConfig}
use Rattle.zot_outside.specs.declared.stores.store.Store.{Ghosts}
use Rattle.zot_pool.specs.Opening.{AllHaveMeaning, AreTightTrees}
use Rattle.zot_pool.specs.Pools.{AreDeduped, AreTightPool, faults_of, holds, objects_of}
use Rattle.zot_rows.specs.Opening.{AllAreWhole, AreOpenedRows}
use Rattle.zot_rows.specs.Rows.{AreAgreedIn, AreOpenedAt, failed_in, part_faults, states_beside}
use Rattle.zot_rows.specs.declared.rows.Rows.{Rows}

-- the rows are opened over these parts: each is what its part holds of its repositories, with the blobs that the shards' parts hold for them; no object has changed, and no call failed
pub record IsOpened {S : Type 0} {G : Ghosts S} (config : RowConfig) (dedupe : Bool) (moment : ℕ) (parts shards : List S) (rows : Rows S G) : Type 0 where
  pub config_is : rows.config ≡ config
  pub agreed : AreAgreedIn rows
  pub failed : All (λ count. count ≡ 0) (failed_in rows)
  pub opened : AreOpenedAt moment rows
  pub state : IfSome (holds (map G.objects shards)) (λ held. AreOpenedRows config moment (map G.objects parts) held (states_beside held rows.rows.items))
  pub objects : map (λ r. G.objects r.core.part) rows.rows.items ≡ map G.objects parts
  pub pooled : objects_of rows.pool.shards.items ≡ map G.objects shards
  pub quiet : part_faults rows ≡ map G.faults parts
  pub still : faults_of rows.pool.shards.items ≡ map G.faults shards
  pub whole : AllAreWhole config moment (map G.objects parts)
  pub meaning : AllHaveMeaning (map G.objects shards)
  pub tight : AreTightTrees (map G.objects shards) → AreTightPool rows.pool.shards.items
  pub dedupe_is : dedupe ≡ true → AreDeduped rows.pool.shards.items

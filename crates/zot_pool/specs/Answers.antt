-- Answers of a shard as answers of the pool.
use Rattle.std.specs.Prelude.{Result, Ok, Err}
use Rattle.zot_outside.specs.declared.stores.store_error.StoreError.{StoreError}
use Rattle.zot_outside.specs.declared.stores.store_error.StoreError.TheVariants as stores
use Rattle.zot_pool.specs.declared.pool_error.PoolError.{PoolError}
use Rattle.zot_pool.specs.declared.pool_error.PoolError.TheVariants as pools

-- the pool's error for a store's; no shard answers that an object is missing
abbrev pub pool_error : StoreError → PoolError
pool_error stores.Missing = pools.Failed
pool_error stores.Failed = pools.Failed
pool_error stores.NoMemory = pools.NoMemory

-- the pool's answer for a shard's
abbrev pub pooled : {T : Type 0} → Result T StoreError → Result T PoolError
pooled (Ok x) = Ok x
pooled (Err e) = Err (pool_error e)

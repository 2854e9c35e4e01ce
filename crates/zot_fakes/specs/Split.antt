-- The parts of a cluster's storage in memory.
use Rattle.std.specs.Prelude.{◌≡◌, ℕ, ◌<◌, List, [], length, slice_get, IsSomeAnd}
use Rattle.zot_fakes.specs.Fakes.{memory_calls, memory_objects}
use Rattle.zot_fakes.specs.Owners.{HasItsOwn}
use Rattle.zot_fakes.specs.declared.memory_store.MemoryStore.{MemoryStore}
use Rattle.zot_fakes.specs.declared.owners.Part.{Part}
use Rattle.zot_fakes.specs.declared.owners.Part.TheVariants as parts
use Rattle.zot_outside.specs.Objects.{Objects}

-- the part of a row, and that of a shard
abbrev pub row_part : List ℕ → ℕ → ℕ → Part
row_part key members number = parts.Row key members number

abbrev pub shard_part : ℕ → Part
shard_part shard = parts.Shard shard

-- no call was made of the store, and none is to fail
abbrev pub IsFresh : MemoryStore → Type 0
IsFresh store = memory_calls store ≡ record { failing = []; made = 0; faults = 0 }

-- a fresh store of just the objects that the part owns
pub record IsPartOf (part : Part) (all : Objects) (store : MemoryStore) : Type 0 where
  pub own : HasItsOwn part all (memory_objects store)
  pub fresh : IsFresh store

-- the stores of so many parts, by their numbers
pub record AreParts (part_at : ℕ → Part) (count : ℕ) (all : Objects) (stores : List MemoryStore) : Type 0 where
  pub count_is : length stores ≡ count
  pub each_part : (number : ℕ) → number < count → IsSomeAnd (slice_get stores number) (λ store. IsPartOf (part_at number) all store)

-- Counts of faults: what a call of the outside says of the count of its object.
use Rattle.std.specs.Prelude.{◌≡◌, ℕ, ◌+◌, ◌-◌, ◌^◌, ◌≤◌, min, ⊤, Result, Ok, Err, OnOk, OnErr}
use Rattle.zot_outside.specs.declared.stores.store_error.StoreError.{StoreError}
use Rattle.zot_outside.specs.declared.stores.store_error.StoreError.TheVariants.{Missing, Failed, NoMemory}

-- a count has risen, or stands at the end of 64 bits
abbrev pub Rose : ℕ → ℕ → Type 0
Rose before after = min (before + 1) (2 ^ 64 - 1) ≤ after

-- the count of faults never falls, rose where the call failed, and stays where it didn't
pub record HasCause {T E : Type 0} (before after : ℕ) (result : Result T E) : Type 0 where
  pub later : before ≤ after
  pub failed : OnErr result (Rose before after)
  pub kept : OnOk result (after ≡ before)

-- a fact for a call of a store that failed
abbrev pub OnFailed : {T : Type 0} → Result T StoreError → Type 0 → Type 0
OnFailed (Ok x) P = ⊤
OnFailed (Err Missing) P = ⊤
OnFailed (Err Failed) P = P
OnFailed (Err NoMemory) P = ⊤

-- a fact for every other answer of a call of a store
abbrev pub UnlessFailed : {T : Type 0} → Result T StoreError → Type 0 → Type 0
UnlessFailed (Ok x) P = P
UnlessFailed (Err Missing) P = P
UnlessFailed (Err Failed) P = ⊤
UnlessFailed (Err NoMemory) P = P

-- a fact for a call of a store that found no object
abbrev pub OnMissing : {T : Type 0} → Result T StoreError → Type 0 → Type 0
OnMissing (Ok x) P = ⊤
OnMissing (Err Missing) P = P
OnMissing (Err Failed) P = ⊤
OnMissing (Err NoMemory) P = ⊤

-- the same of a call of a store
pub record HasStoreCause {T : Type 0} (before after : ℕ) (result : Result T StoreError) : Type 0 where
  pub later : before ≤ after
  pub failed : OnFailed result (Rose before after)
  pub kept : UnlessFailed result (after ≡ before)

-- Counts of faults of an upstream.
use Rattle.std.specs.Prelude.{◌≡◌, ℕ, ◌≤◌, ⊤, Result, Ok, Err}
use Rattle.zot_outside.specs.Faults.{Rose}
use Rattle.zot_pool.specs.declared.up_error.UpError.{UpError}
use Rattle.zot_pool.specs.declared.up_error.UpError.TheVariants.{Failed, NoMemory}

-- a fact for a call of an upstream that failed
abbrev pub OnUpFailed : {T : Type 0} → Result T UpError → Type 0 → Type 0
OnUpFailed (Ok x) P = ⊤
OnUpFailed (Err Failed) P = P
OnUpFailed (Err NoMemory) P = ⊤

-- a fact for every other answer
abbrev pub UnlessUpFailed : {T : Type 0} → Result T UpError → Type 0 → Type 0
UnlessUpFailed (Ok x) P = P
UnlessUpFailed (Err Failed) P = ⊤
UnlessUpFailed (Err NoMemory) P = P

-- the count of faults never falls, rose where the call failed, and stays where it didn't
pub record HasUpCause {T : Type 0} (before after : ℕ) (result : Result T UpError) : Type 0 where
  pub later : before ≤ after
  pub failed : OnUpFailed result (Rose before after)
  pub kept : UnlessUpFailed result (after ≡ before)

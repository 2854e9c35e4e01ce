-- Calls that fail by a list of their numbers.
use Rattle.std.specs.Prelude.{◌≡◌, ℕ, ◌+◌, ◌-◌, ◌^◌, ◌==◌, Bool, true, false, List, min, Result, OnOk, OnErr, if◌then◌else◌, is_err, ◌⊎◌}
use Rattle.std.specs.List.{list_any}
use Rattle.zot_outside.specs.declared.stores.store_error.StoreError.{StoreError}
use Rattle.zot_outside.specs.Faults.{OnFailed, UnlessFailed}

-- the numbers, from 1, of the calls that are to fail, how many calls were made, and how many of them failed
pub record Count : Type 0 where
  pub failing : List ℕ
  pub made : ℕ
  pub faults : ℕ

-- one more, up to 2^64 - 1
abbrev pub one_more : ℕ → ℕ
one_more n = min (n + 1) (2 ^ 64 - 1)

-- whether the next call is to fail: its number stands in the list
abbrev pub fails : Count → Bool
fails count = list_any (λ n. n == one_more count.made) count.failing

-- the count after the next call
abbrev pub counted : Count → Count
counted count = record count { made = one_more count.made; faults = (if fails count then one_more count.faults else count.faults) }

-- a call of a store was counted, and failed exactly where its number is listed
pub record ByList {T : Type 0} (before : Count) (result : Result T StoreError) (after : Count) : Type 0 where
  pub counts : after ≡ counted before
  pub listed : OnFailed result (fails before ≡ true)
  pub others : UnlessFailed result (fails before ≡ false)

-- the same of a call that has no other error
pub record FailsByList {T E : Type 0} (before : Count) (result : Result T E) (after : Count) : Type 0 where
  pub counts : after ≡ counted before
  pub listed : OnErr result (fails before ≡ true)
  pub others : OnOk result (fails before ≡ false)

-- the same of a call that may also fail for want of room, but only where it is short of room; each failure is counted once
pub record FailsByListOr {T E : Type 0} (short : Type 0) (before : Count) (result : Result T E) (after : Count) : Type 0 where
  pub counts : after ≡ record before { made = one_more before.made; faults = (if is_err result then one_more before.faults else before.faults) }
  pub listed : OnErr result ((fails before ≡ true) ⊎ short)
  pub others : OnOk result (fails before ≡ false)

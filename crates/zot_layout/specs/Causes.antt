-- Why a layout wasn't read: what an error says of the store's count of faults, and of what was to be read.
use Rattle.std.specs.Prelude.{◌≡◌, ℕ, ◌≤◌, ⊤, List, Vec, Result, Ok, Err}
use Rattle.std.specs.Global.{Global}
use Rattle.zot_outside.specs.Faults.{Rose}
use Rattle.zot_layout.specs.declared.layout_error.LayoutError.{LayoutError}
use Rattle.zot_layout.specs.declared.layout_error.LayoutError.TheVariants as errors

-- a fact for a call whose store failed
abbrev pub OnFailed : {A : Type 0} → Result A LayoutError → Type 0 → Type 0
OnFailed (Ok value) P = ⊤
OnFailed (Err (errors.BadIndex path text)) P = ⊤
OnFailed (Err (errors.BadMeta path text)) P = ⊤
OnFailed (Err errors.Failed) P = P
OnFailed (Err errors.NoMemory) P = ⊤

-- a fact for every other answer
abbrev pub UnlessFailed : {A : Type 0} → Result A LayoutError → Type 0 → Type 0
UnlessFailed (Ok value) P = P
UnlessFailed (Err (errors.BadIndex path text)) P = P
UnlessFailed (Err (errors.BadMeta path text)) P = P
UnlessFailed (Err errors.Failed) P = ⊤
UnlessFailed (Err errors.NoMemory) P = P

-- the store's count of faults never falls, rose where the answer is that it failed, and stays where it isn't
pub record HasLayoutCause {A : Type 0} (before after : ℕ) (result : Result A LayoutError) : Type 0 where
  pub later : before ≤ after
  pub failed : OnFailed result (Rose before after)
  pub kept : UnlessFailed result (after ≡ before)

-- the answer is what was to be read, or the same error. Of a store that failed, and without memory, nothing is said
abbrev pub Answers : {A : Type 0} → Result A LayoutError → Result A LayoutError → Type 0
Answers (Ok value) wanted = wanted ≡ Ok value
Answers (Err (errors.BadIndex path text)) wanted = wanted ≡ Err (errors.BadIndex path text)
Answers (Err (errors.BadMeta path text)) wanted = wanted ≡ Err (errors.BadMeta path text)
Answers (Err errors.Failed) wanted = ⊤
Answers (Err errors.NoMemory) wanted = ⊤

-- an error that says nothing of what was to be read: the store failed, or memory ran out
abbrev pub SaysNothing : LayoutError → Type 0
SaysNothing (errors.BadIndex path text) = ⊥
SaysNothing (errors.BadMeta path text) = ⊥
SaysNothing errors.Failed = ⊤
SaysNothing errors.NoMemory = ⊤

-- the answer with a vector's items
abbrev pub items_in : {A : Type 0} → Result (Vec A Global) LayoutError → Result (List A) LayoutError
items_in (Ok vector) = Ok vector.items
items_in (Err error) = Err error

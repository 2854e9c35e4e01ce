-- Why a layout wasn't read, put together from the calls that were made.
use Rattle.std.proofs.Common.{◌≡◌, ◌≢◌, ℕ, ◌≤◌, Option, Some, None, IfSome, Result, Ok, Err, sym, ap, subst, ◌∙◌, arith}
use Rattle.std.specs.Prelude.{if◌then◌else◌, Bool, true, false, List}
use Rattle.std.specs.Result.{IsErrAnd}
use Rattle.std.proofs.lemmas.Result.{err_from_is_err_and}
use Rattle.std.specs.List.{list_all}
use Rattle.serde_json.specs.Data.{Data}
use Rattle.zot_media.specs.Fields.{document}
use Rattle.zot_layout.specs.Causes.{Answers, HasLayoutCause, SaysNothing}
use Rattle.zot_outside.specs.Objects.{Objects}
use Rattle.zot_layout.specs.Marker.{is_marker, marker_meaning}
use Rattle.zot_layout.specs.Reading.{IsJust, IsWhy, has_version, listed_in, may_stand, meaning, meaning_in, meaning_of, state_of}
use Rattle.zot_layout.specs.declared.layout_error.LayoutError.{LayoutError}
use Rattle.zot_layout.specs.declared.layout_error.LayoutError.TheVariants as errors
use Rattle.zot_layout.specs.declared.listed.Listed.{Listed}

still : (before after : ℕ) → after ≡ before → before ≤ after
still before after is = omega (arith, is)

-- a call that made no fault
pub no_fault : {A : Type 0} (before after : ℕ) (value : A) → after ≡ before → HasLayoutCause before after (Ok value)
no_fault before after value is = record { later = still before after is; failed = tt; kept = is }

-- bytes without a meaning are no fault of the store
pub no_meaning : {A B : Type 0} (before after : ℕ) (wanted : Result A LayoutError) (error : LayoutError) → wanted ≢ Err errors.Failed → IsWhy error wanted → after ≡ before → HasLayoutCause {A = B} before after (Err error)
no_meaning before after wanted (errors.BadIndex path text) never why is = record { later = still before after is; failed = tt; kept = is }
no_meaning before after wanted (errors.BadMeta path text) never why is = record { later = still before after is; failed = tt; kept = is }
no_meaning before after wanted errors.Failed never why is = absurd (never why)
no_meaning before after wanted errors.NoMemory never why is = record { later = still before after is; failed = tt; kept = is }

pub marker_never_fails : (path bytes : List ℕ) → marker_meaning path bytes ≢ Err errors.Failed
marker_never_fails path bytes = by (is_marker bytes) where
  by : (b : Bool) → (if b then Ok (tt {0}) else Err (errors.BadIndex path bytes)) ≢ Err errors.Failed
  by true is = cc is
  by false is = cc is

pub index_never_fails : (path bytes : List ℕ) (moment : ℕ) → meaning path bytes moment ≢ Err errors.Failed
index_never_fails path bytes moment = by_document (document bytes) where
  by_test : (listed : List Listed) (b : Bool) → (if b then Ok (state_of moment listed) else Err (errors.BadMeta path bytes)) ≢ Err errors.Failed
  by_test listed true is = cc is
  by_test listed false is = cc is

  by_listed : (version : Bool) (found : Option (List Listed)) → meaning_of path bytes moment version found ≢ Err errors.Failed
  by_listed version None is = cc is
  by_listed true (Some listed) is = by_test listed (list_all may_stand listed) is
  by_listed false (Some listed) is = cc is

  by_document : (found : Option Data) → meaning_in path bytes moment found ≢ Err errors.Failed
  by_document None is = cc is
  by_document (Some value) is = by_listed (has_version value) (listed_in value) is

-- memory ran out
pub no_memory : {A : Type 0} (before after : ℕ) → after ≡ before → HasLayoutCause {A = A} before after (Err errors.NoMemory)
no_memory before after is = record { later = still before after is; failed = tt; kept = is }

-- an error that says nothing answers anything
pub nothing_said : {A : Type 0} (error : LayoutError) (wanted : Result A LayoutError) → SaysNothing error → Answers {A = A} (Err error) wanted
nothing_said (errors.BadIndex path text) wanted h = absurd h
nothing_said (errors.BadMeta path text) wanted h = absurd h
nothing_said errors.Failed wanted h = tt
nothing_said errors.NoMemory wanted h = tt

-- an error that is handed on says the same
pub handed_on : {A : Type 0} (result wanted : Result A LayoutError) (error : LayoutError) → IsErrAnd result (λ e. e ≡ error) → Answers {A = A} (Err error) wanted → Answers result wanted
handed_on result wanted error is says = let p = err_from_is_err_and result is in subst (λ r. Answers r wanted) (sym (p.1 ∙ ap Err p.2)) says

-- the same where it says nothing, of a store that may tell its objects
pub nothing_told : {A : Type 0} (objects : Option Objects) (wanted : Objects → Result A LayoutError) (result : Result A LayoutError) (error : LayoutError) → IsErrAnd result (λ e. e ≡ error) → SaysNothing error → IfSome objects (λ told. Answers result (wanted told))
nothing_told None wanted result error is h = tt
nothing_told (Some told) wanted result error is h = handed_on result (wanted told) error is (nothing_said error (wanted told) h)

pub handed_told : {A : Type 0} (objects : Option Objects) (wanted : Objects → Result A LayoutError) (result : Result A LayoutError) (error : LayoutError) → IsErrAnd result (λ e. e ≡ error) → IfSome objects (λ told. Answers {A = A} (Err error) (wanted told))
    → IfSome objects (λ told. Answers result (wanted told))
handed_told None wanted result error is h = tt
handed_told (Some told) wanted result error is h = handed_on result (wanted told) error is h

-- an answer that is just what bytes mean is no fault of the store
pub just_cause : {A : Type 0} (before after : ℕ) (wanted result : Result A LayoutError) → wanted ≢ Err errors.Failed → IsJust result wanted → after ≡ before → HasLayoutCause before after result
just_cause before after wanted (Ok value) never just is = no_fault before after value is
just_cause before after wanted (Err error) never just is = no_meaning before after wanted error never just is

-- the same of an error that is handed on
pub handed_cause : {A B : Type 0} (before after : ℕ) (wanted : Result A LayoutError) (result : Result B LayoutError) (error : LayoutError) → IsErrAnd result (λ e. e ≡ error) → wanted ≢ Err errors.Failed → IsWhy error wanted → after ≡ before
    → HasLayoutCause before after result
handed_cause {A} {B} before after wanted result error is never why same =
    let p = err_from_is_err_and result is in subst (HasLayoutCause before after) (sym (p.1 ∙ ap Err p.2)) (no_meaning {A = A} {B = B} before after wanted error never why same)

-- Why a call of a host has no result, and what it says of the count of faults.
use Rattle.std.specs.Prelude.{◌≡◌, ◌≢◌, ℕ, ◌≤◌, ⊤, Result, Ok, Err}
use Rattle.std.specs.declared.io.ErrorKind.{ErrorKind}
use Rattle.std.specs.declared.io.ErrorKind.TheVariants.{OutOfMemory}
use Rattle.zot_folder.specs.Answers.{IsAbsent}
use Rattle.zot_host.specs.declared.host_error.HostError.{HostError}
use Rattle.zot_host.specs.declared.host_error.HostError.TheVariants.{Missing, Failed, NoMemory}
use Rattle.zot_outside.specs.Faults.{Rose}

-- a fact for a call that failed
abbrev pub OnFailed : {T : Type 0} → Result T HostError → Type 0 → Type 0
OnFailed (Ok x) P = ⊤
OnFailed (Err Missing) P = ⊤
OnFailed (Err Failed) P = P
OnFailed (Err NoMemory) P = ⊤

-- a fact for every other answer
abbrev pub UnlessFailed : {T : Type 0} → Result T HostError → Type 0 → Type 0
UnlessFailed (Ok x) P = P
UnlessFailed (Err Missing) P = P
UnlessFailed (Err Failed) P = ⊤
UnlessFailed (Err NoMemory) P = P

-- a fact for a file that isn't there
abbrev pub OnMissing : {T : Type 0} → Result T HostError → Type 0 → Type 0
OnMissing (Ok x) P = ⊤
OnMissing (Err Missing) P = P
OnMissing (Err Failed) P = ⊤
OnMissing (Err NoMemory) P = ⊤

-- the count of faults never falls, rose where the call failed, and stays where it didn't
pub record HasHostCause {T : Type 0} (before after : ℕ) (result : Result T HostError) : Type 0 where
  pub later : before ≤ after
  pub failed : OnFailed result (Rose before after)
  pub kept : UnlessFailed result (after ≡ before)

-- what a call answers that the system declined with an error of this kind: that there is no such file, that memory ran out, or else that it failed
pub record Declines {T : Type 0} (kind : ErrorKind) (result : Result T HostError) : Type 0 where
  pub absent : IsAbsent kind → result ≡ Err Missing
  pub memory : kind ≡ OutOfMemory → result ≡ Err NoMemory
  pub other : ¬ IsAbsent kind → kind ≢ OutOfMemory → result ≡ Err Failed

-- the call failed exactly where this holds
pub record FailsJustWhere {T : Type 0} (result : Result T HostError) (P : Type 0) : Type 0 where
  pub failed : OnFailed result P
  pub always : P → result ≡ Err Failed

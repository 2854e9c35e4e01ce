-- The configuration in a file of a host, or why there is none.
use Rattle.std.specs.Prelude.{◌≡◌, ℕ, ⊤, List, Option, Result, Ok, Err}
use Rattle.zot_config.specs.Settings.{Settings}
use Rattle.zot_config.specs.Table.{IsRead}
use Rattle.zot_config.specs.Wrong.{Read}
use Rattle.zot_host.specs.Files.{HasFile}
use Rattle.zot_host.specs.declared.unconfigured.Unconfigured.{Unconfigured}
use Rattle.zot_host.specs.declared.unconfigured.Unconfigured.TheVariants.{Missing, Failed, Wrong, NoMemory}
use Rattle.zot_outside.specs.Faults.{Rose}
use Rattle.zot_outside.specs.Objects.{IsMissing, Objects}

-- what was read is what these bytes stand for, unless memory ran out
abbrev pub StandsFor : List ℕ → Result Settings Unconfigured → Type 0
StandsFor bytes (Ok settings) = IsRead bytes (Ok settings)
StandsFor bytes (Err Missing) = ⊥
StandsFor bytes (Err Failed) = ⊥
StandsFor bytes (Err (Wrong field found)) = IsRead bytes (Err (record { field = field; found = found }))
StandsFor bytes (Err NoMemory) = ⊤

-- this is what the bytes stand for that the file of the path has
abbrev pub Gives : Option Objects → List ℕ → Read Settings → Type 0
Gives files path read = (bytes : List ℕ) × HasFile files path bytes × IsRead bytes read

-- the configuration of the file of the path, or why there is none
abbrev pub IsOf : Option Objects → List ℕ → Result Settings Unconfigured → Type 0
IsOf files path (Ok settings) = Gives files path (Ok settings)
IsOf files path (Err Missing) = IsMissing files path
IsOf files path (Err Failed) = ⊤
IsOf files path (Err (Wrong field found)) = Gives files path (Err (record { field = field; found = found }))
IsOf files path (Err NoMemory) = ⊤

-- a fact for a host that failed
abbrev pub OnFault : {T : Type 0} → Result T Unconfigured → Type 0 → Type 0
OnFault (Ok x) P = ⊤
OnFault (Err Missing) P = ⊤
OnFault (Err Failed) P = P
OnFault (Err (Wrong field found)) P = ⊤
OnFault (Err NoMemory) P = ⊤

-- a fact for every other answer
abbrev pub UnlessFault : {T : Type 0} → Result T Unconfigured → Type 0 → Type 0
UnlessFault (Ok x) P = P
UnlessFault (Err Missing) P = P
UnlessFault (Err Failed) P = ⊤
UnlessFault (Err (Wrong field found)) P = P
UnlessFault (Err NoMemory) P = P

-- the host's count of faults rose where it failed, and stays where it didn't
pub record CountsFaults {T : Type 0} (result : Result T Unconfigured) (before after : ℕ) : Type 0 where
  pub failed : OnFault result (Rose before after)
  pub kept : UnlessFault result (after ≡ before)

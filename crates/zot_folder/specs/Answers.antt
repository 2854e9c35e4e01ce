-- What the system's answers mean.
use Rattle.std.specs.Prelude.{◌≡◌, ◌≢◌, ◌⊎◌, Result, Err}
use Rattle.std.specs.declared.io.ErrorKind.{ErrorKind}
use Rattle.std.specs.declared.io.ErrorKind.TheVariants.{InvalidFilename, NotADirectory, NotFound, OutOfMemory}
use Rattle.zot_outside.specs.declared.stores.store_error.StoreError.{StoreError}
use Rattle.zot_outside.specs.declared.stores.store_error.StoreError.TheVariants.{Failed, NoMemory}

-- an error of this kind says that there is nothing: no such name, a file in a folder's place, or a name that no file can have
abbrev pub IsAbsent : ErrorKind → Type 0
IsAbsent kind = (kind ≡ NotFound) ⊎ (kind ≡ NotADirectory) ⊎ (kind ≡ InvalidFilename)

-- a call of a store that failed with an error of this kind answers that memory ran out, or else that it failed
pub record RefusesAs {T : Type 0} (kind : ErrorKind) (result : Result T StoreError) : Type 0 where
  pub memory : kind ≡ OutOfMemory → result ≡ Err NoMemory
  pub other : kind ≢ OutOfMemory → result ≡ Err Failed

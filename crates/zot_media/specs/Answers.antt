-- What an answer says of what is read.
use Rattle.std.specs.Prelude.{◌≡◌, Option, Some, None, Result, Ok, Err}
use Rattle.zot_media.specs.declared.media_error.MediaError.{MediaError}
use Rattle.zot_media.specs.declared.media_error.MediaError.TheVariants as errors

-- the answer is exactly what is read, and `Bad` exactly where nothing is. Memory may run out in any case
abbrev pub IsRead : {A : Type 0} → Result A MediaError → Option A → Type 0
IsRead (Ok value) read = read ≡ Some value
IsRead (Err errors.Bad) read = read ≡ None
IsRead (Err errors.NoMemory) read = Unit {0}

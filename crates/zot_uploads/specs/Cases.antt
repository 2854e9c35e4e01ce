-- When a call on an upload succeeds and when it is refused: the first case that fits, in the order of the errors.
use Rattle.std.specs.Prelude.{◌≡◌, ◌≢◌, ℕ, true, false, List, ◌++◌, length, Option, None, IsSomeAnd}
use Rattle.zot_digest.specs.Digest.{IsSound}
use Rattle.zot_model.specs.declared.span.Span.{Span}
use Rattle.zot_model.specs.Pieces.{goes_on, keeps_limit}
use Rattle.zot_model.specs.Uploads.{OpenUpload, UploadTable, is_full}
use Rattle.zot_uploads.specs.declared.upload_error.UploadError.{UploadError}
use Rattle.zot_uploads.specs.declared.upload_error.UploadError.TheVariants as errors

-- a piece goes on where an upload ends; a piece without a range always does
abbrev pub GoesOn : Option Span → OpenUpload → List ℕ → Type 0
GoesOn range upload piece = goes_on range (length upload.bytes) (length piece) ≡ true

-- an upload keeps its limit with a piece after its bytes
abbrev pub KeepsLimit : OpenUpload → List ℕ → Type 0
KeepsLimit upload piece = keeps_limit upload piece ≡ true

-- the piece is taken: an upload was found open under the id, the piece goes on where it ends, and the limit is kept
abbrev pub IsTaken : Option OpenUpload → Option Span → List ℕ → Type 0
IsTaken found range piece = IsSomeAnd found (λ upload. GoesOn range upload piece × KeepsLimit upload piece)

-- the piece is refused so: no upload is open, or the piece doesn't go on where the upload ends, or it goes past the limit.
-- Memory runs out only where a piece is taken
abbrev pub Refuses : Option OpenUpload → Option Span → List ℕ → UploadError → Type 0
Refuses found range piece errors.Full = ⊥
Refuses found range piece errors.Unknown = found ≡ None
Refuses found range piece (errors.Range end) = IsSomeAnd found (λ upload. (¬ GoesOn range upload piece) × (end ≡ length upload.bytes))
Refuses found range piece errors.TooLarge = IsSomeAnd found (λ upload. GoesOn range upload piece × (¬ KeepsLimit upload piece))
Refuses found range piece (errors.Differ other) = ⊥
Refuses found range piece errors.NoMemory = IsTaken found range piece

-- the last piece is taken and the digest is that of all bytes
abbrev pub IsWhole : Option OpenUpload → Option Span → List ℕ → List ℕ → Type 0
IsWhole found range piece digest = IsSomeAnd found (λ upload. GoesOn range upload piece × KeepsLimit upload piece × IsSound digest (upload.bytes ++ piece))

-- the last piece is taken and the digest isn't that of all bytes, which is the other one
abbrev pub Differs : Option OpenUpload → Option Span → List ℕ → List ℕ → List ℕ → Type 0
Differs found range piece digest other = IsSomeAnd found (λ upload. GoesOn range upload piece × KeepsLimit upload piece × IsSound other (upload.bytes ++ piece) × (other ≢ digest))

-- the last piece is refused as any piece, or for the digest. Memory runs out only where all is right
abbrev pub RefusesWhole : Option OpenUpload → Option Span → List ℕ → List ℕ → UploadError → Type 0
RefusesWhole found range piece digest (errors.Differ other) = Differs found range piece digest other
RefusesWhole found range piece digest errors.NoMemory = IsWhole found range piece digest
RefusesWhole found range piece digest refusal = Refuses found range piece refusal

-- an upload more may be opened: fewer than the most are open, and the last id wasn't given
abbrev pub HasRoom : UploadTable → Type 0
HasRoom table = is_full table ≡ false

-- no upload more may be opened
abbrev pub IsFull : UploadTable → Type 0
IsFull table = is_full table ≡ true

-- a new upload is refused so. Memory runs out only where there is room
abbrev pub RefusesNew : UploadTable → UploadError → Type 0
RefusesNew table errors.Full = IsFull table
RefusesNew table errors.NoMemory = HasRoom table
RefusesNew table refusal = ⊥

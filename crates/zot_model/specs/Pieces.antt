-- Which pieces an upload takes (OCI Distribution Specification, "Pushing a blob in chunks").
use Rattle.std.specs.Prelude.{ℕ, ◌+◌, ◌==◌, nat_le, Bool, true, ◌&&◌, List, length, Option, Some, None}
use Rattle.zot_model.specs.declared.limits.TheConstants.{UPLOAD_LIMIT}
use Rattle.zot_model.specs.declared.span.Span.{Span}
use Rattle.zot_model.specs.Uploads.{OpenUpload}

-- the most bytes that an upload has
unfoldable pub upload_limit : ℕ
upload_limit = UPLOAD_LIMIT

-- whether a range is that of a piece of so many bytes after so many others: it starts where these end, and has a place for each byte.
-- Places are counted from 0, and the last one belongs to the range
abbrev pub is_next_range : Span → ℕ → ℕ → Bool
is_next_range span before size = (span.start == before) && (span.end + 1 == span.start + size)

-- whether a piece of so many bytes goes on after so many others; a piece without a range always does
abbrev pub goes_on : Option Span → ℕ → ℕ → Bool
goes_on None before size = true
goes_on (Some span) before size = is_next_range span before size

-- whether an upload keeps its limit with a piece after its bytes
abbrev pub keeps_limit : OpenUpload → List ℕ → Bool
keeps_limit upload piece = nat_le (length upload.bytes + length piece) upload_limit

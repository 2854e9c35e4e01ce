-- The codes of refusals: a row of one table each (OCI Distribution Specification 1.1, "Error Codes", through TOOMANYREQUESTS; the others are this project's own).
use Rattle.std.specs.Prelude.{◌≡◌, ℕ, ◌+◌, ◌==◌, ◌&&◌, nat_le, if◌then◌else◌, List, [], ◌∷◌, map, codes, ⊤, ◌⊎◌}
use Rattle.zot_model.specs.declared.code.Code.{Code}
use Rattle.zot_model.specs.declared.code.Code.TheVariants as kinds
use Rattle.zot_model.specs.declared.detail.Detail.{Detail}
use Rattle.zot_model.specs.declared.detail.Detail.TheVariants as details
use Rattle.zot_model.specs.declared.methods.Methods.TheVariants as methods

-- what is said beside a code: nothing, the digest of what is missing, the digest that was wanted with the one that was found, how far an upload has come, that the path may be read, or its methods
pub data DetailKind : Type 0 where
  Nothing : DetailKind
  Missing : DetailKind
  Differ : DetailKind
  Session : DetailKind
  Reading : DetailKind
  Methods : DetailKind

abbrev pub SaysNothing : Detail → Type 0
SaysNothing details.None = ⊤
SaysNothing _ = ⊥

abbrev pub SaysMissing : Detail → Type 0
SaysMissing (details.Missing digest) = ⊤
SaysMissing _ = ⊥

abbrev pub SaysDiffer : Detail → Type 0
SaysDiffer (details.Differ wanted found) = ⊤
SaysDiffer _ = ⊥

abbrev pub SaysSession : Detail → Type 0
SaysSession (details.Session id length) = ⊤
SaysSession _ = ⊥

abbrev pub SaysMethods : Detail → Type 0
SaysMethods (details.Allow which) = ⊤
SaysMethods _ = ⊥

-- the detail is of this kind
abbrev pub IsOfKind : DetailKind → Detail → Type 0
IsOfKind Nothing detail = SaysNothing detail
IsOfKind Missing detail = SaysMissing detail
IsOfKind Differ detail = SaysDiffer detail
IsOfKind Session detail = SaysSession detail
IsOfKind Reading detail = detail ≡ details.Allow methods.Read
IsOfKind Methods detail = SaysMethods detail

-- how a message is refused that asks for nothing: with this status, and with a detail of this kind
pub record Decline : Type 0 where
  pub status : ℕ
  pub kind : DetailKind

-- what is known of a code: its text; the status of a request that is refused with it, and the kind of what is said beside (RFC 9110, section 15); how a message that asks for nothing is refused with it
pub record CodeRow : Type 0 where
  pub text : List ℕ
  pub status : ℕ
  pub kind : DetailKind
  pub declined : List Decline

-- a message is refused with this status, and nothing is said beside
abbrev pub plainly : ℕ → Decline
plainly status = record { status = status; kind = Nothing }

-- a path that no route has, a method that the path doesn't have, and a number in a query that isn't one
abbrev pub no_path : Decline
no_path = plainly 404

abbrev pub no_method : Decline
no_method = record { status = 405; kind = Methods }

abbrev pub no_number : Decline
no_number = plainly 400

-- a range that isn't one
abbrev pub no_range : Decline
no_range = plainly 400

-- a code with which requests alone are refused
abbrev pub of_requests : List ℕ → ℕ → DetailKind → CodeRow
of_requests text status kind = record { text = text; status = status; kind = kind; declined = [] }

-- a code with which messages are refused too, as the last part says
abbrev pub of_messages : List ℕ → ℕ → DetailKind → Decline → CodeRow
of_messages text status kind decline = record { text = text; status = status; kind = kind; declined = decline ∷ [] }

-- a code with which messages are refused as requests are, and nothing is said beside
abbrev pub of_both : List ℕ → ℕ → CodeRow
of_both text status = of_messages text status Nothing (plainly status)

-- the row of a code
abbrev pub row_of : Code → CodeRow
row_of kinds.BlobUnknown = of_requests (codes "BLOB_UNKNOWN") 404 Nothing
row_of kinds.BlobUploadInvalid = of_messages (codes "BLOB_UPLOAD_INVALID") 416 Session no_range
row_of kinds.BlobUploadUnknown = of_requests (codes "BLOB_UPLOAD_UNKNOWN") 404 Nothing
row_of kinds.DigestInvalid = of_both (codes "DIGEST_INVALID") 400
row_of kinds.ManifestBlobUnknown = of_requests (codes "MANIFEST_BLOB_UNKNOWN") 400 Missing
row_of kinds.ManifestInvalid = of_both (codes "MANIFEST_INVALID") 400
row_of kinds.ManifestUnknown = of_both (codes "MANIFEST_UNKNOWN") 404
row_of kinds.NameInvalid = of_both (codes "NAME_INVALID") 400
row_of kinds.NameUnknown = of_requests (codes "NAME_UNKNOWN") 404 Nothing
row_of kinds.SizeInvalid = of_both (codes "SIZE_INVALID") 413
row_of kinds.Unsupported = record { text = codes "UNSUPPORTED"; status = 405; kind = Reading; declined = no_path ∷ no_method ∷ no_number ∷ [] }
row_of kinds.TooManyRequests = of_requests (codes "TOOMANYREQUESTS") 429 Nothing
row_of kinds.HeadInvalid = of_both (codes "HEAD_INVALID") 400
row_of kinds.HeadTooLong = of_both (codes "HEAD_TOO_LONG") 431
row_of kinds.StorageFault = of_requests (codes "STORAGE_FAULT") 500 Nothing
row_of kinds.UpstreamFault = of_requests (codes "UPSTREAM_FAULT") 502 Nothing
row_of kinds.UpstreamMismatch = of_requests (codes "UPSTREAM_MISMATCH") 502 Differ
row_of kinds.UpstreamIncomplete = of_requests (codes "UPSTREAM_INCOMPLETE") 502 Missing
row_of kinds.UpstreamInvalid = of_requests (codes "UPSTREAM_INVALID") 502 Missing
row_of kinds.UpstreamTooLarge = of_requests (codes "UPSTREAM_TOO_LARGE") 502 Nothing
row_of kinds.PeerFault = of_requests (codes "PEER_FAULT") 502 Nothing
row_of kinds.NoMemory = of_both (codes "NO_MEMORY") 503
row_of kinds.HopRefused = of_requests (codes "HOP_REFUSED") 508 Nothing

-- the text of a code
unfoldable pub code_text : Code → List ℕ
code_text code = (row_of code).text

-- a letter of a message: lower case, with a space for an underscore
abbrev pub message_byte : ℕ → ℕ
message_byte c = if c == 95 then 32 else (if nat_le 65 c && nat_le c 90 then c + 32 else c)

-- the message of a code
unfoldable pub message_text : Code → List ℕ
message_text code = map message_byte (code_text code)

-- the status of a request that is refused with the code
abbrev pub status_of : Code → ℕ
status_of code = (row_of code).status

-- the kind of what a refusal says beside its code
abbrev pub detail_kind : Code → DetailKind
detail_kind code = (row_of code).kind

-- what a refusal says beside its code
abbrev pub HasDetail : Code → Detail → Type 0
HasDetail code detail = IsOfKind (detail_kind code) detail

-- the status and the detail are one of these
abbrev pub IsDeclinedBy : List Decline → ℕ → Detail → Type 0
IsDeclinedBy [] status detail = ⊥
IsDeclinedBy (decline ∷ []) status detail = (status ≡ decline.status) × IsOfKind decline.kind detail
IsDeclinedBy (decline ∷ other ∷ others) status detail = ((status ≡ decline.status) × IsOfKind decline.kind detail) ⊎ IsDeclinedBy (other ∷ others) status detail

-- the status, and what is said beside it, with which a message is refused that asks for nothing: for its path, its name, its method, its texts or its size
abbrev pub IsDeclinedAs : Code → ℕ → Detail → Type 0
IsDeclinedAs code status detail = IsDeclinedBy (row_of code).declined status detail

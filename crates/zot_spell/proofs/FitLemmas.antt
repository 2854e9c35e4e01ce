-- A reply that fits has a status of three digits.
use Rattle.std.proofs.Common.{◌≡◌, ℕ, ◌<◌, ◌≤◌, List, Option, Some, None, ◌⊎◌, inl, inr, arith}
use Rattle.http.specs.StatusCode.{IsStatusCode}
use Rattle.zot_model.specs.declared.call.Call.{Call}
use Rattle.zot_model.specs.declared.call.Call.TheVariants as calls
use Rattle.zot_model.specs.declared.code.Code.{Code}
use Rattle.zot_model.specs.declared.code.Code.TheVariants.{BlobUnknown, BlobUploadInvalid, BlobUploadUnknown, DigestInvalid, HeadInvalid, HeadTooLong, HopRefused, ManifestBlobUnknown, ManifestInvalid, ManifestUnknown, NameInvalid, NameUnknown, NoMemory, PeerFault, SizeInvalid, StorageFault, TooManyRequests, Unsupported, UpstreamFault, UpstreamIncomplete, UpstreamInvalid, UpstreamMismatch, UpstreamTooLarge}
use Rattle.zot_model.specs.declared.detail.Detail.{Detail}
use Rattle.zot_model.specs.declared.reply.Reply.{Reply}
use Rattle.zot_model.specs.declared.reply.Reply.TheVariants as replies
use Rattle.zot_model.specs.declared.request.Request.{Request}
use Rattle.zot_model.specs.Fits.{IsDeclinedAs, IsSuccessOf, status_of}
use Rattle.zot_spell.specs.Spelling.{HasStatus, MayHave, parts_of}

is_three : (status n : ℕ) → status ≡ n → 100 ≤ n → n < 1000 → IsStatusCode status
is_three status n e low high = (omega arith, omega arith)

code_three : (code : Code) → IsStatusCode (status_of code)
code_three BlobUnknown = (omega arith, omega arith)
code_three code = (omega arith, omega arith)

-- no call succeeds with a refusal
pub not_success : (call : Call) (status : ℕ) (code : Code) (detail : Detail) → IsSuccessOf call (replies.Refused status code detail) → ⊥
not_success calls.Base status code detail h = h
not_success (calls.GetBlob d) status code detail h = h
not_success (calls.HeadBlob d) status code detail h = h
not_success (calls.DeleteBlob d) status code detail h = h
not_success (calls.Post m None b) status code detail h = h
not_success (calls.Post m (Some d) b) status code detail h = h
not_success (calls.Patch None r b) status code detail h = h
not_success (calls.Patch (Some i) r b) status code detail h = h
not_success (calls.Finish None r d b) status code detail h = h
not_success (calls.Finish (Some i) r d b) status code detail h = h
not_success (calls.UploadState None) status code detail h = h
not_success (calls.UploadState (Some i)) status code detail h = h
not_success (calls.PutManifest r m b) status code detail h = h
not_success (calls.GetManifest r) status code detail h = h
not_success (calls.HeadManifest r) status code detail h = h
not_success (calls.DeleteManifest r) status code detail h = h
not_success (calls.Tags n l) status code detail h = h
not_success (calls.Referrers d f) status code detail h = h

-- an upload is answered with 202 or 204
pub session_status : (call : Call) (id size status : ℕ) → IsSuccessOf call (replies.Session id size status) → (status ≡ 202) ⊎ (status ≡ 204)
session_status calls.Base id size status h = absurd h
session_status (calls.GetBlob d) id size status h = absurd h
session_status (calls.HeadBlob d) id size status h = absurd h
session_status (calls.DeleteBlob d) id size status h = absurd h
session_status (calls.Post m None b) id size status h = inl h
session_status (calls.Post m (Some d) b) id size status h = absurd h
session_status (calls.Patch None r b) id size status h = absurd h
session_status (calls.Patch (Some i) r b) id size status h = inl h
session_status (calls.Finish None r d b) id size status h = absurd h
session_status (calls.Finish (Some i) r d b) id size status h = absurd h
session_status (calls.UploadState None) id size status h = absurd h
session_status (calls.UploadState (Some i)) id size status h = inr h
session_status (calls.PutManifest r m b) id size status h = absurd h
session_status (calls.GetManifest r) id size status h = absurd h
session_status (calls.HeadManifest r) id size status h = absurd h
session_status (calls.DeleteManifest r) id size status h = absurd h
session_status (calls.Tags n l) id size status h = absurd h
session_status (calls.Referrers d f) id size status h = absurd h

session_three : (status : ℕ) → (status ≡ 202) ⊎ (status ≡ 204) → IsStatusCode status
session_three status (inl h) = is_three status 202 h (omega arith) (omega arith)
session_three status (inr h) = is_three status 204 h (omega arith) (omega arith)

declined_three : (code : Code) (status : ℕ) (detail : Detail) → IsDeclinedAs code status detail → IsStatusCode status
declined_three BlobUnknown status detail h = absurd h
declined_three BlobUploadInvalid status detail h = is_three status 400 h.0 (omega arith) (omega arith)
declined_three BlobUploadUnknown status detail h = absurd h
declined_three DigestInvalid status detail h = is_three status 400 h.0 (omega arith) (omega arith)
declined_three HeadInvalid status detail h = is_three status 400 h.0 (omega arith) (omega arith)
declined_three HeadTooLong status detail h = is_three status 431 h.0 (omega arith) (omega arith)
declined_three HopRefused status detail h = absurd h
declined_three ManifestBlobUnknown status detail h = absurd h
declined_three ManifestInvalid status detail h = is_three status 400 h.0 (omega arith) (omega arith)
declined_three ManifestUnknown status detail h = is_three status 404 h.0 (omega arith) (omega arith)
declined_three NameInvalid status detail h = is_three status 400 h.0 (omega arith) (omega arith)
declined_three NameUnknown status detail h = absurd h
declined_three NoMemory status detail h = is_three status 503 h.0 (omega arith) (omega arith)
declined_three PeerFault status detail h = absurd h
declined_three SizeInvalid status detail h = is_three status 413 h.0 (omega arith) (omega arith)
declined_three StorageFault status detail h = absurd h
declined_three TooManyRequests status detail h = absurd h
declined_three Unsupported status detail (inl h) = is_three status 404 h.0 (omega arith) (omega arith)
declined_three Unsupported status detail (inr (inl h)) = is_three status 405 h.0 (omega arith) (omega arith)
declined_three Unsupported status detail (inr (inr h)) = is_three status 400 h.0 (omega arith) (omega arith)
declined_three UpstreamFault status detail h = absurd h
declined_three UpstreamIncomplete status detail h = absurd h
declined_three UpstreamInvalid status detail h = absurd h
declined_three UpstreamMismatch status detail h = absurd h
declined_three UpstreamTooLarge status detail h = absurd h

pub has_status : (request : Option Request) (name : List ℕ) (reply : Reply) → MayHave request reply → HasStatus name reply
unfolding parts_of
has_status request name replies.Base h = (omega arith, omega arith)
has_status request name (replies.Blob digest bytes) h = (omega arith, omega arith)
has_status request name (replies.BlobHead digest size) h = (omega arith, omega arith)
has_status request name (replies.BlobMade digest) h = (omega arith, omega arith)
has_status None name (replies.Session id size status) h = absurd h
has_status (Some request) name (replies.Session id size status) (inl h) = session_three status (session_status request.call id size status h)
has_status (Some request) name (replies.Session id size status) (inr h) = absurd h
has_status request name (replies.ManifestMade digest subject) h = (omega arith, omega arith)
has_status request name (replies.Manifest digest media bytes) h = (omega arith, omega arith)
has_status request name (replies.ManifestHead digest media size) h = (omega arith, omega arith)
has_status request name (replies.Tags tags next n) h = (omega arith, omega arith)
has_status request name (replies.Referrers text filtered) h = (omega arith, omega arith)
has_status request name replies.Deleted h = (omega arith, omega arith)
has_status None name (replies.Refused status code detail) h = declined_three code status detail h
has_status (Some request) name (replies.Refused status code detail) (inl h) = absurd (not_success request.call status code detail h)
has_status (Some request) name (replies.Refused status code detail) (inr h) = let three = code_three code in is_three status (status_of code) h.1 three.0 three.1

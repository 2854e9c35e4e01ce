-- What a plain registry answers to a request on an upload (OCI Distribution Specification, "POST then PUT" and "Pushing a blob in chunks").
use Rattle.std.specs.Prelude.{ℕ, ◌+◌, true, List, ◌++◌, length, Option, Some, None, if◌then◌else◌}
use Rattle.std.specs.FinMap as map
use Rattle.zot_digest.specs.Digest.{is_sound}
use Rattle.zot_model.specs.declared.code.Code.TheVariants.{BlobUploadUnknown, DigestInvalid, SizeInvalid, TooManyRequests}
use Rattle.zot_model.specs.declared.reply.Reply.TheVariants.{BlobMade, Session}
use Rattle.zot_model.specs.declared.span.Span.{Span}
use Rattle.zot_model.specs.Outcomes.{Outcome, stays, with_blob}
use Rattle.zot_model.specs.Pieces.{goes_on, keeps_limit}
use Rattle.zot_model.specs.Refusals.{refusal, upload_invalid}
use Rattle.zot_model.specs.State.{RepoState}
use Rattle.zot_model.specs.Uploads.{OpenUpload, UploadTable, is_full, with_new, with_piece, without}

-- the repository with these upload sessions
abbrev pub with_sessions : RepoState → UploadTable → RepoState
with_sessions repo sessions = record { known = repo.known; blobs = repo.blobs; manifests = repo.manifests; tags = repo.tags; sessions = sessions }

-- the repository with an upload more, which makes it known
abbrev pub with_upload : ℕ → RepoState → RepoState
with_upload moment repo = record { known = true; blobs = repo.blobs; manifests = repo.manifests; tags = repo.tags; sessions = with_new moment repo.sessions }

-- POST without a digest: 429 where no upload more may be opened, and else 202 and a new upload without bytes, which begins at the moment
abbrev pub plain_begin : ℕ → RepoState → Outcome
plain_begin moment repo =
    if is_full repo.sessions then stays repo (refusal TooManyRequests)
    else record { reply = Session (repo.sessions.opened + 1) 0 202; repo = with_upload moment repo }

-- what a request on the upload leads to that was found under an id, or 404 where there is none
abbrev pub at_found : RepoState → (OpenUpload → Outcome) → Option OpenUpload → Outcome
at_found repo outcome None = stays repo (refusal BlobUploadUnknown)
at_found repo outcome (Some upload) = outcome upload

-- what a request on the upload of an id leads to, or 404 where none is open under it; a text that is no id names none
abbrev pub at_upload : RepoState → Option ℕ → (ℕ → OpenUpload → Outcome) → Outcome
at_upload repo None outcome = stays repo (refusal BlobUploadUnknown)
at_upload repo (Some id) outcome = at_found repo (outcome id) (map.get repo.sessions.uploads id)

-- what a piece leads to that an upload takes; 416 where it doesn't go on where the upload ends, or 413 where the upload would be too large
abbrev pub if_taken : RepoState → ℕ → OpenUpload → Option Span → List ℕ → Outcome → Outcome
if_taken repo id upload range piece outcome =
    if goes_on range (length upload.bytes) (length piece) then (if keeps_limit upload piece then outcome else stays repo (refusal SizeInvalid))
    else stays repo (upload_invalid id (length upload.bytes))

-- GET of an upload: 204 and how many bytes it has
abbrev pub plain_state : RepoState → ℕ → OpenUpload → Outcome
plain_state repo id upload = stays repo (Session id (length upload.bytes) 204)

-- PATCH of an upload: 202, and the piece stands after its bytes
abbrev pub plain_patch : RepoState → Option Span → List ℕ → ℕ → OpenUpload → Outcome
plain_patch repo range piece id upload =
    if_taken repo id upload range piece (record { reply = Session id (length upload.bytes + length piece) 202; repo = with_sessions repo (with_piece repo.sessions id piece) })

-- the last piece of an upload: 400 where all bytes have another digest, and else 201, the blob is stored and the upload ends
abbrev pub plain_whole : ℕ → RepoState → List ℕ → List ℕ → ℕ → Outcome
plain_whole moment repo digest bytes id =
    if is_sound digest bytes then record { reply = BlobMade digest; repo = with_blob moment (with_sessions repo (without repo.sessions id)) digest bytes }
    else stays repo (refusal DigestInvalid)

-- PUT of an upload: its last piece, which comes with the digest of all its bytes
abbrev pub plain_finish : ℕ → RepoState → Option Span → List ℕ → List ℕ → ℕ → OpenUpload → Outcome
plain_finish moment repo range digest piece id upload = if_taken repo id upload range piece (plain_whole moment repo digest (upload.bytes ++ piece) id)

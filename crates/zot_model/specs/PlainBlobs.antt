-- What a plain registry answers to a request on a blob.
use Rattle.std.specs.Prelude.{ℕ, List, length, Option, Some, None, if◌then◌else◌}
use Rattle.std.specs.FinMap as map
use Rattle.zot_digest.specs.Digest.{is_sound}
use Rattle.zot_model.specs.declared.code.Code.TheVariants.{BlobUnknown, DigestInvalid}
use Rattle.zot_model.specs.declared.methods.Methods.TheVariants as methods
use Rattle.zot_model.specs.declared.reply.Reply.{Reply}
use Rattle.zot_model.specs.declared.reply.Reply.TheVariants.{Blob, BlobHead, BlobMade, Deleted}
use Rattle.zot_model.specs.Manifests.{is_needed}
use Rattle.zot_model.specs.Outcomes.{Outcome, stays, with_blob}
use Rattle.zot_model.specs.Refusals.{not_allowed, refusal}
use Rattle.zot_model.specs.State.{RepoState, Stored}

-- a reply to a wanted blob, or 404 where the repository has none (OCI Distribution Specification, "Pulling blobs")
abbrev pub found_or : (Stored → Reply) → Option Stored → Reply
found_or reply None = refusal BlobUnknown
found_or reply (Some stored) = reply stored

-- GET of a blob: its bytes
abbrev pub plain_get : RepoState → List ℕ → Outcome
plain_get repo digest = stays repo (found_or (λ stored. Blob digest stored.bytes) (map.get repo.blobs digest))

-- HEAD of a blob: its size
abbrev pub plain_head : RepoState → List ℕ → Outcome
plain_head repo digest = stays repo (found_or (λ stored. BlobHead digest (length stored.bytes)) (map.get repo.blobs digest))

-- POST of a blob with its digest: 400 where the body has another one, and else the blob is stored (OCI Distribution Specification, "Single POST")
abbrev pub plain_post : ℕ → RepoState → List ℕ → List ℕ → Outcome
plain_post moment repo digest body =
    if is_sound digest body then record { reply = BlobMade digest; repo = with_blob moment repo digest body }
    else stays repo (refusal DigestInvalid)

-- the repository without a blob
abbrev pub without_blob : RepoState → List ℕ → RepoState
without_blob repo digest = record { known = repo.known; blobs = map.remove repo.blobs digest; manifests = repo.manifests; tags = repo.tags; sessions = repo.sessions }

-- DELETE of a blob that the repository has: 405 where it is a manifest or some manifest refers to it, and else 202 and the blob is deleted (OCI Distribution Specification, "Deleting Blobs")
abbrev pub delete_found : RepoState → List ℕ → Option Stored → Outcome
delete_found repo digest None = stays repo (refusal BlobUnknown)
delete_found repo digest (Some stored) = if is_needed repo digest then stays repo (not_allowed methods.Read) else record { reply = Deleted; repo = without_blob repo digest }

abbrev pub plain_delete : RepoState → List ℕ → Outcome
plain_delete repo digest = delete_found repo digest (map.get repo.blobs digest)

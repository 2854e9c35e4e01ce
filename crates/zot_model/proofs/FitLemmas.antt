-- What the plain registry answers fits what was asked.
use Rattle.std.proofs.Common.{◌≡◌, ◌≢◌, inl, inr, ℕ, Bool, true, false, List, ◌++◌, length, Option, Some, None, refl, sym, subst, if◌then◌else◌}
use Rattle.std.specs.FinMap as map
use Rattle.sha2.specs.Sha256.{sha256}
use Rattle.zot_digest.specs.Digest.{is_sound}
use Rattle.zot_media.specs.Manifest.{reading}
use Rattle.zot_media.specs.References.{needed}
use Rattle.zot_media.specs.declared.media.Media.{Media}
use Rattle.zot_media.specs.declared.reading.Reading.{Reading}
use Rattle.zot_media.specs.declared.reference.Reference.{Reference}
use Rattle.zot_media.specs.declared.reference.Reference.TheVariants as by
use Rattle.zot_model.specs.declared.call.Call.{Call}
use Rattle.zot_model.specs.declared.call.Call.TheVariants as calls
use Rattle.zot_model.specs.declared.code.Code.{Code}
use Rattle.zot_model.specs.declared.code.Code.TheVariants.{BlobUploadUnknown, NoMemory, StorageFault}
use Rattle.zot_model.specs.declared.detail.Detail.TheVariants as details
use Rattle.zot_model.specs.Codes.{HasDetail}
use Rattle.zot_model.specs.declared.mount.Mount.{Mount}
use Rattle.zot_model.specs.declared.reply.Reply.{Reply}
use Rattle.zot_model.specs.declared.span.Span.{Span}
use Rattle.zot_model.specs.Fits.{FitsCall, IsAmong, codes_of, common_codes, finish_codes, upload_codes}
use Rattle.zot_model.specs.Pieces.{goes_on, keeps_limit}
use Rattle.zot_model.specs.Manifests.{Found, first_missing, is_needed, manifest_of}
use Rattle.zot_model.specs.Outcomes.{Outcome}
use Rattle.zot_model.specs.Plain.{MayAnswer, plain}
use Rattle.zot_model.specs.PlainBlobs.{delete_found, plain_get, plain_head, plain_post}
use Rattle.zot_model.specs.PlainManifests.{get_found, head_found, is_other, put_checked, put_read}
use Rattle.zot_model.specs.PlainUploads.{at_found, if_taken, plain_begin, plain_finish, plain_patch, plain_state}
use Rattle.zot_model.specs.Refusals.{no_memory, storage_fault, refusal}
use Rattle.zot_model.specs.State.{RepoState, RowState, Stored, repo_at}
use Rattle.zot_model.specs.Uploads.{OpenUpload, is_full}

-- each call on a repository may be refused with the common codes
upload_common : (id : Option ℕ) (range : Option Span) (code : Code) → IsAmong common_codes code → IsAmong (upload_codes id range) code
upload_common None range code h = inr h
upload_common (Some id) None code h = inr (inr h)
upload_common (Some id) (Some range) code h = inr (inr (inr h))

finish_common : (id : Option ℕ) (range : Option Span) (code : Code) → IsAmong common_codes code → IsAmong (finish_codes id range) code
finish_common None range code h = upload_common None range code h
finish_common (Some id) range code h = inr (upload_common (Some id) range code h)

common : (call : Call) (code : Code) → call ≢ calls.Base → IsAmong common_codes code → IsAmong (codes_of call) code
common calls.Base code named h = absurd (named refl)
common (calls.GetBlob digest) code named h = inr h
common (calls.HeadBlob digest) code named h = inr h
common (calls.DeleteBlob digest) code named h = inr (inr h)
common (calls.Post mount (Some digest) body) code named h = inr h
common (calls.Post mount None body) code named h = inr h
common (calls.Patch id range body) code named h = upload_common id range code h
common (calls.Finish id range digest body) code named h = finish_common id range code h
common (calls.UploadState id) code named h = inr h
common (calls.PutManifest reference media body) code named h = inr (inr (inr h))
common (calls.GetManifest reference) code named h = inr (inr (inr (inr (inr (inr h)))))
common (calls.HeadManifest reference) code named h = inr (inr (inr (inr (inr (inr h)))))
common (calls.DeleteManifest reference) code named h = inr h
common (calls.Tags n last) code named h = inr h
common (calls.Referrers digest filter) code named h = h

says_nothing : (code : Code) → IsAmong common_codes code → HasDetail code details.None
says_nothing code (inl h) = subst (λ c. HasDetail c details.None) (sym h) tt
says_nothing code (inr (inl h)) = subst (λ c. HasDetail c details.None) (sym h) tt
says_nothing code (inr (inr (inl h))) = subst (λ c. HasDetail c details.None) (sym h) tt
says_nothing code (inr (inr (inr (inl h)))) = subst (λ c. HasDetail c details.None) (sym h) tt
says_nothing code (inr (inr (inr (inr h)))) = absurd h

-- a refusal with a common code fits each call on a repository
pub common_fits : (call : Call) (code : Code) → call ≢ calls.Base → IsAmong common_codes code → FitsCall call (refusal code)
common_fits call code named h = inr (common call code named h, refl, says_nothing code h)

-- want of memory does
memory_fits : (call : Call) → call ≢ calls.Base → FitsCall call no_memory
memory_fits call named = common_fits call NoMemory named (inr (inl refl))

-- a storage fault does
fault_fits : (call : Call) → call ≢ calls.Base → FitsCall call storage_fault
fault_fits call named = common_fits call StorageFault named (inl refl)

chosen : (call : Call) (b : Bool) (x y : Outcome) → FitsCall call x.reply → FitsCall call y.reply → FitsCall call (if b then x else y).reply
chosen call true x y h k = h
chosen call false x y h k = k

get_fits : (repo : RepoState) (digest : List ℕ) (found : Option Stored) → map.get repo.blobs digest ≡ found → FitsCall (calls.GetBlob digest) (plain_get repo digest).reply
get_fits repo digest None e = rw e (inr (inl refl, refl, tt))
get_fits repo digest (Some stored) e = rw e (inl tt)

head_fits : (repo : RepoState) (digest : List ℕ) (found : Option Stored) → map.get repo.blobs digest ≡ found → FitsCall (calls.HeadBlob digest) (plain_head repo digest).reply
head_fits repo digest None e = rw e (inr (inl refl, refl, tt))
head_fits repo digest (Some stored) e = rw e (inl tt)

post_fits : (moment : ℕ) (repo : RepoState) (mount : Option Mount) (digest body : List ℕ) → FitsCall (calls.Post mount (Some digest) body) (plain_post moment repo digest body).reply
post_fits moment repo mount digest body = chosen (calls.Post mount (Some digest) body) (is_sound digest body) _ _ (inl tt) (inr (inl refl, refl, tt))

begin_fits : (moment : ℕ) (repo : RepoState) (mount : Option Mount) (body : List ℕ) → FitsCall (calls.Post mount None body) (plain_begin moment repo).reply
begin_fits moment repo mount body = chosen (calls.Post mount None body) (is_full repo.sessions) _ _ (inr (inl refl, refl, tt)) (inl refl)

state_fits : (repo : RepoState) (asked id : ℕ) (found : Option OpenUpload) → FitsCall (calls.UploadState (Some asked)) (at_found repo (plain_state repo id) found).reply
state_fits repo asked id None = inr (inl refl, refl, tt)
state_fits repo asked id (Some upload) = inl refl

-- a piece that is refused, or what follows one that is taken
module _ (repo : RepoState) (id : ℕ) (upload : OpenUpload) (piece : List ℕ) (outcome : Outcome) where
  patch_taken : (asked : ℕ) (range : Option Span) → FitsCall (calls.Patch (Some asked) range piece) outcome.reply → FitsCall (calls.Patch (Some asked) range piece) (if_taken repo id upload range piece outcome).reply
  patch_taken asked None h = chosen (calls.Patch (Some asked) None piece) (keeps_limit upload piece) _ _ h (inr (inr (inl refl), refl, tt))
  patch_taken asked (Some span) h =
      chosen (calls.Patch (Some asked) (Some span) piece) (goes_on (Some span) (length upload.bytes) (length piece)) _ _
      (chosen (calls.Patch (Some asked) (Some span) piece) (keeps_limit upload piece) _ _ h (inr (inr (inr (inl refl)), refl, tt)))
      (inr (inr (inl refl), refl, tt))

  finish_taken : (asked : ℕ) (range : Option Span) (digest : List ℕ) → FitsCall (calls.Finish (Some asked) range digest piece) outcome.reply
      → FitsCall (calls.Finish (Some asked) range digest piece) (if_taken repo id upload range piece outcome).reply
  finish_taken asked None digest h = chosen (calls.Finish (Some asked) None digest piece) (keeps_limit upload piece) _ _ h (inr (inr (inr (inl refl)), refl, tt))
  finish_taken asked (Some span) digest h =
      chosen (calls.Finish (Some asked) (Some span) digest piece) (goes_on (Some span) (length upload.bytes) (length piece)) _ _
      (chosen (calls.Finish (Some asked) (Some span) digest piece) (keeps_limit upload piece) _ _ h (inr (inr (inr (inr (inl refl))), refl, tt)))
      (inr (inr (inr (inl refl)), refl, tt))

unknown_patch : (asked : ℕ) (range : Option Span) (piece : List ℕ) → FitsCall (calls.Patch (Some asked) range piece) (refusal BlobUploadUnknown)
unknown_patch asked None piece = inr (inl refl, refl, tt)
unknown_patch asked (Some span) piece = inr (inl refl, refl, tt)

unknown_finish : (asked : ℕ) (range : Option Span) (digest piece : List ℕ) → FitsCall (calls.Finish (Some asked) range digest piece) (refusal BlobUploadUnknown)
unknown_finish asked None digest piece = inr (inr (inl refl), refl, tt)
unknown_finish asked (Some span) digest piece = inr (inr (inl refl), refl, tt)

patch_fits : (repo : RepoState) (asked : ℕ) (range : Option Span) (piece : List ℕ) (id : ℕ) (found : Option OpenUpload) → FitsCall (calls.Patch (Some asked) range piece) (at_found repo (plain_patch repo range piece id) found).reply
patch_fits repo asked range piece id None = unknown_patch asked range piece
patch_fits repo asked range piece id (Some upload) = patch_taken repo id upload piece _ asked range (inl refl)

finish_fits : (moment : ℕ) (repo : RepoState) (asked : ℕ) (range : Option Span) (digest piece : List ℕ) (id : ℕ) (found : Option OpenUpload)
    → FitsCall (calls.Finish (Some asked) range digest piece) (at_found repo (plain_finish moment repo range digest piece id) found).reply
finish_fits moment repo asked range digest piece id None = unknown_finish asked range digest piece
finish_fits moment repo asked range digest piece id (Some upload) =
    finish_taken repo id upload piece _ asked range digest
    (chosen (calls.Finish (Some asked) range digest piece) (is_sound digest (upload.bytes ++ piece)) _ _ (inl tt) (inr (inl refl, refl, tt)))

-- ---- manifests and tags

delete_fits : (repo : RepoState) (digest : List ℕ) (found : Option Stored) → FitsCall (calls.DeleteBlob digest) (delete_found repo digest found).reply
delete_fits repo digest None = inr (inl refl, refl, tt)
delete_fits repo digest (Some stored) = chosen (calls.DeleteBlob digest) (is_needed repo digest) _ _ (inr (inr (inl refl), refl, refl)) (inl tt)

get_manifest_fits : (moment : ℕ) (repo : RepoState) (reference : Reference) (found : Option Found) → FitsCall (calls.GetManifest reference) (get_found moment repo reference found).reply
get_manifest_fits moment repo reference None = inr (inl refl, refl, tt)
get_manifest_fits moment repo reference (Some found) = inl tt

head_manifest_fits : (repo : RepoState) (reference : Reference) (found : Option Found) → FitsCall (calls.HeadManifest reference) (head_found repo found).reply
head_manifest_fits repo reference None = inr (inl refl, refl, tt)
head_manifest_fits repo reference (Some found) = inl tt

checked_fits : (moment : ℕ) (repo : RepoState) (reference : Reference) (digest : List ℕ) (media : Media) (body : List ℕ) (read : Reading) (missing : Option (List ℕ))
    → FitsCall (calls.PutManifest reference (Some media) body) (put_checked moment repo reference digest media body read missing).reply
checked_fits moment repo reference digest media body read (Some missing) = inr (inr (inr (inl refl)), refl, tt)
checked_fits moment repo reference digest media body read None = inl tt

put_fits : (moment : ℕ) (repo : RepoState) (reference : Reference) (media : Media) (body : List ℕ) (read : Option Reading)
    → FitsCall (calls.PutManifest reference (Some media) body) (put_read moment repo reference media body read).reply
put_fits moment repo reference media body None = inr (inl refl, refl, tt)
put_fits moment repo reference media body (Some read) =
    chosen (calls.PutManifest reference (Some media) body) (is_other reference (sha256 body)) _ _ (inr (inr (inl refl), refl, tt))
    (checked_fits moment repo reference (sha256 body) media body read (first_missing (map.contains_key repo.blobs) (needed read)))

plain_fits : (moment : ℕ) (repo : RepoState) (call : Call) → call ≢ calls.Base → FitsCall call (plain moment repo call).reply
unfolding plain
plain_fits moment repo calls.Base named = absurd (named refl)
plain_fits moment repo (calls.GetBlob digest) named = get_fits repo digest (map.get repo.blobs digest) refl
plain_fits moment repo (calls.HeadBlob digest) named = head_fits repo digest (map.get repo.blobs digest) refl
plain_fits moment repo (calls.DeleteBlob digest) named = delete_fits repo digest (map.get repo.blobs digest)
plain_fits moment repo (calls.Post mount (Some digest) body) named = post_fits moment repo mount digest body
plain_fits moment repo (calls.Post mount None body) named = begin_fits moment repo mount body
plain_fits moment repo (calls.Patch None range body) named = inr (inl refl, refl, tt)
plain_fits moment repo (calls.Patch (Some id) range body) named = patch_fits repo id range body id (map.get repo.sessions.uploads id)
plain_fits moment repo (calls.Finish None range digest body) named = inr (inl refl, refl, tt)
plain_fits moment repo (calls.Finish (Some id) range digest body) named = finish_fits moment repo id range digest body id (map.get repo.sessions.uploads id)
plain_fits moment repo (calls.UploadState None) named = inr (inl refl, refl, tt)
plain_fits moment repo (calls.UploadState (Some id)) named = state_fits repo id id (map.get repo.sessions.uploads id)
plain_fits moment repo (calls.PutManifest reference None body) named = inr (inl refl, refl, tt)
plain_fits moment repo (calls.PutManifest reference (Some media) body) named = put_fits moment repo reference media body (reading media body)
plain_fits moment repo (calls.GetManifest reference) named = get_manifest_fits moment repo reference (manifest_of repo reference)
plain_fits moment repo (calls.HeadManifest reference) named = head_manifest_fits repo reference (manifest_of repo reference)
plain_fits moment repo (calls.DeleteManifest (by.Tag tag)) named = chosen (calls.DeleteManifest (by.Tag tag)) (map.contains_key repo.tags tag) _ _ (inl tt) (inr (inl refl, refl, tt))
plain_fits moment repo (calls.DeleteManifest (by.Digest digest)) named = chosen (calls.DeleteManifest (by.Digest digest)) (map.contains_key repo.manifests digest) _ _ (inl tt) (inr (inl refl, refl, tt))
plain_fits moment repo (calls.Tags n last) named = chosen (calls.Tags n last) repo.known _ _ (inl tt) (inr (inl refl, refl, tt))
plain_fits moment repo (calls.Referrers digest filter) named = inl tt

-- each answer to a call on a repository fits it
pub answer_fits : (moment : ℕ) (old new : RowState) (name : List ℕ) (call : Call) (reply : Reply) → MayAnswer moment old name call reply new → call ≢ calls.Base → FitsCall call reply
answer_fits moment old new name call reply (inl h) named = subst (λ (r : Reply). FitsCall call r) (sym h.way.reply_is) (plain_fits moment (repo_at old name) call named)
answer_fits moment old new name call reply (inr (inl h)) named = subst (λ (r : Reply). FitsCall call r) (sym h.way.reply_is) (memory_fits call named)
answer_fits moment old new name call reply (inr (inr h)) named = subst (λ (r : Reply). FitsCall call r) (sym h.way.reply_is) (fault_fits call named)

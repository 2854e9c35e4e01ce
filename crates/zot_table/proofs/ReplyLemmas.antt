-- What the parts of a repository's answer say is what the plain registry says.
use Rattle.std.proofs.Common.{◌≡◌, ◌≢◌, ◌⊎◌, ℕ, ◌+◌, Bool, true, false, List, ◌++◌, length, Option, Some, None, inl, inr, refl, sym, ap, ◌∙◌, if◌then◌else◌}
use Rattle.std.specs.FinMap as map
use Rattle.std.proofs.lemmas.Slice.Eq.{bytes_eq-Decides}
use Rattle.zot_digest.specs.Digest.{IsSound, is_sound}
use Rattle.zot_model.specs.Outcomes.{Outcome, stays, with_blob}
use Rattle.zot_model.specs.Pieces.{goes_on, keeps_limit}
use Rattle.zot_model.specs.Plain.{plain}
use Rattle.zot_model.specs.PlainBlobs.{found_or}
use Rattle.zot_model.specs.PlainUploads.{at_found, if_taken, plain_finish, plain_patch, plain_state, with_sessions, with_upload}
use Rattle.zot_model.specs.Refusals.{no_memory, refusal}
use Rattle.zot_model.specs.State.{RepoState}
use Rattle.zot_model.specs.Uploads.{OpenUpload, bytes_of, is_full, with_piece, without}
use Rattle.zot_model.specs.declared.call.Call.{Call}
use Rattle.zot_model.specs.declared.call.Call.TheVariants as calls
use Rattle.zot_model.specs.declared.code.Code.TheVariants.{DigestInvalid, TooManyRequests}
use Rattle.zot_model.specs.declared.mount.Mount.{Mount}
use Rattle.zot_model.specs.declared.reply.Reply.{Reply}
use Rattle.zot_model.specs.declared.reply.Reply.TheVariants.{Base, Blob, BlobHead, BlobMade, Session}
use Rattle.zot_model.specs.declared.span.Span.{Span}
use Rattle.zot_table.specs.Refusals.{new_refusal, upload_refusal}
use Rattle.zot_table.specs.Replies.{MayGive, found_reply, state_reply}
use Rattle.zot_uploads.specs.Cases.{IsTaken, IsWhole, Refuses, RefusesNew, RefusesWhole}
use Rattle.zot_uploads.specs.declared.upload_error.UploadError.{UploadError}
use Rattle.zot_uploads.specs.declared.upload_error.UploadError.TheVariants as errors

-- memory ran out, and nothing changed
pub lacks : (moment : ℕ) (old new : RepoState) (call : Call) (reply : Reply) → reply ≡ no_memory → new ≡ old → MayGive moment old call reply new
lacks moment old new call reply h same = inr (record { reply_is = h; leaves = inl same })

-- the reply and the repository are those of the case that fits
pub is_plain : (moment : ℕ) (old new : RepoState) (call : Call) (reply : Reply) (outcome : Outcome) → plain moment old call ≡ outcome → reply ≡ outcome.reply → new ≡ outcome.repo → MayGive moment old call reply new
is_plain moment old new call reply outcome is reply_is repo_is = inl (record {
  reply_is = reply_is ∙ ap (λ (o : Outcome). o.reply) (sym is);
  repo_is = repo_is ∙ ap (λ (o : Outcome). o.repo) (sym is);
})

chosen : (b : Bool) (x y : Outcome) → b ≡ false → (if b then x else y) ≡ y
chosen true x y h = cc h
chosen false x y h = refl

taken : (b : Bool) (x y : Outcome) → b ≡ true → (if b then x else y) ≡ x
taken true x y h = refl
taken false x y h = cc h

-- a test is false where it isn't true
isnt : (b : Bool) → ¬ (b ≡ true) → b ≡ false
isnt true h = absurd (h refl)
isnt false h = refl

unsound : (digest bytes : List ℕ) → ¬ IsSound digest bytes → is_sound digest bytes ≡ false
unsound digest bytes h = isnt (is_sound digest bytes) (λ e. h ((bytes_eq-Decides digest _).0 e))

sound : (digest bytes : List ℕ) → IsSound digest bytes → is_sound digest bytes ≡ true
sound digest bytes h = (bytes_eq-Decides digest _).1 h

-- ---- blobs

-- a GET is answered as the plain registry does
pub get_answers : (moment : ℕ) (repo : RepoState) (digest : List ℕ) (reply : Reply) → reply ≡ found_or (λ stored. Blob digest stored.bytes) (map.get repo.blobs digest) → MayGive moment repo (calls.GetBlob digest) reply repo
unfolding plain
get_answers moment repo digest reply is = inl (record { reply_is = is; repo_is = refl })

-- a HEAD is answered as the plain registry does
pub head_answers : (moment : ℕ) (repo : RepoState) (digest : List ℕ) (reply : Reply) → reply ≡ found_or (λ stored. BlobHead digest (length stored.bytes)) (map.get repo.blobs digest)
    → MayGive moment repo (calls.HeadBlob digest) reply repo
unfolding plain
head_answers moment repo digest reply is = inl (record { reply_is = is; repo_is = refl })

-- a POST of a blob whose digest isn't its own, and of one that was stored
module _ (moment : ℕ) (old : RepoState) (mount : Option Mount) (digest body : List ℕ) (reply : Reply) where
  pub post_unsound : (¬ IsSound digest body) → reply ≡ refusal DigestInvalid → MayGive moment old (calls.Post mount (Some digest) body) reply old
  unfolding plain
  post_unsound isnt is = is_plain moment old old (calls.Post mount (Some digest) body) reply _ (chosen (is_sound digest body) _ _ (unsound digest body isnt)) is refl

  pub post_made : (new : RepoState) → IsSound digest body → reply ≡ BlobMade digest → new ≡ with_blob moment old digest body → MayGive moment old (calls.Post mount (Some digest) body) reply new
  unfolding plain
  post_made new is_own is same = is_plain moment old new (calls.Post mount (Some digest) body) reply _ (taken (is_sound digest body) _ _ (sound digest body is_own)) is same

-- ---- uploads

-- a POST of a new upload
pub begun : (moment : ℕ) (repo new : RepoState) (mount : Option Mount) (body : List ℕ) (reply : Reply) → is_full repo.sessions ≡ false → reply ≡ Session (repo.sessions.opened + 1) 0 202 → new ≡ with_upload moment repo
    → MayGive moment repo (calls.Post mount None body) reply new
unfolding plain
begun moment repo new mount body reply room is same = is_plain moment repo new (calls.Post mount None body) reply _ (chosen (is_full repo.sessions) _ _ room) is same

full : (moment : ℕ) (repo new : RepoState) (mount : Option Mount) (body : List ℕ) (reply : Reply) → is_full repo.sessions ≡ true → reply ≡ refusal TooManyRequests → new ≡ repo
    → MayGive moment repo (calls.Post mount None body) reply new
unfolding plain
full moment repo new mount body reply h is same = is_plain moment repo new (calls.Post mount None body) reply _ (taken (is_full repo.sessions) _ _ h) is same

-- an error is want of memory, or it isn't
or_memory : (error : UploadError) → (error ≡ errors.NoMemory) ⊎ (error ≢ errors.NoMemory)
or_memory errors.Full = inr (λ e. cc e)
or_memory errors.Unknown = inr (λ e. cc e)
or_memory (errors.Range end) = inr (λ e. cc e)
or_memory errors.TooLarge = inr (λ e. cc e)
or_memory (errors.Differ other) = inr (λ e. cc e)
or_memory errors.NoMemory = inl refl

-- one that is refused
pub not_begun : (moment : ℕ) (repo new : RepoState) (mount : Option Mount) (body : List ℕ) (error : UploadError) (reply : Reply) → RefusesNew repo.sessions error → reply ≡ new_refusal error → new ≡ repo
    → MayGive moment repo (calls.Post mount None body) reply new
not_begun moment repo new mount body errors.Full reply h is same = full moment repo new mount body reply h is same
not_begun moment repo new mount body errors.Unknown reply h is same = absurd h
not_begun moment repo new mount body (errors.Range end) reply h is same = absurd h
not_begun moment repo new mount body errors.TooLarge reply h is same = absurd h
not_begun moment repo new mount body (errors.Differ found) reply h is same = absurd h
not_begun moment repo new mount body errors.NoMemory reply h is same = lacks moment repo new (calls.Post mount None body) reply is same

-- a text that is no id
pub unnamed_patch : (repo : RepoState) (id : Option ℕ) (range : Option Span) (piece : List ℕ) (reply : Reply) → id ≡ None → reply ≡ upload_refusal 0 errors.Unknown → (moment : ℕ)
    → MayGive moment repo (calls.Patch id range piece) reply repo
unfolding plain
unnamed_patch repo None range piece reply e is moment = is_plain moment repo repo (calls.Patch None range piece) reply (stays repo (upload_refusal 0 errors.Unknown)) refl is refl
unnamed_patch repo (Some id) range piece reply e is moment = cc e

pub unnamed_finish : (moment : ℕ) (repo : RepoState) (id : Option ℕ) (range : Option Span) (digest piece : List ℕ) (reply : Reply) → id ≡ None → reply ≡ upload_refusal 0 errors.Unknown
    → MayGive moment repo (calls.Finish id range digest piece) reply repo
unfolding plain
unnamed_finish moment repo None range digest piece reply e is = is_plain moment repo repo (calls.Finish None range digest piece) reply (stays repo (upload_refusal 0 errors.Unknown)) refl is refl
unnamed_finish moment repo (Some id) range digest piece reply e is = cc e

state_outcome : (repo : RepoState) (id : ℕ) (found : Option OpenUpload) → at_found repo (plain_state repo id) found ≡ stays repo (found_reply id found)
state_outcome repo id None = refl
state_outcome repo id (Some upload) = refl

-- a GET of an upload is answered as the plain registry does
pub state_answers : (moment : ℕ) (repo : RepoState) (id : Option ℕ) (reply : Reply) → reply ≡ state_reply id repo.sessions → MayGive moment repo (calls.UploadState id) reply repo
unfolding plain
state_answers moment repo None reply is = is_plain moment repo repo (calls.UploadState None) reply _ refl is refl
state_answers moment repo (Some id) reply is = is_plain moment repo repo (calls.UploadState (Some id)) reply _ (state_outcome repo id (map.get repo.sessions.uploads id)) is refl

-- a piece that is refused leads to its refusal, whatever would follow one that is taken
refused_outcome : (repo : RepoState) (id : ℕ) (found : Option OpenUpload) (range : Option Span) (piece : List ℕ) (outcome : OpenUpload → Outcome) (error : UploadError) → Refuses found range piece error → error ≢ errors.NoMemory
    → at_found repo (λ upload. if_taken repo id upload range piece (outcome upload)) found ≡ stays repo (upload_refusal id error)
refused_outcome repo id found range piece outcome errors.Full h other = absurd h
refused_outcome repo id None range piece outcome errors.Unknown h other = refl
refused_outcome repo id (Some upload) range piece outcome errors.Unknown h other = cc h
refused_outcome repo id None range piece outcome (errors.Range end) h other = absurd h
refused_outcome repo id (Some upload) range piece outcome (errors.Range end) h other =
    chosen (goes_on range (length upload.bytes) (length piece)) _ _ (isnt _ h.0) ∙ ap (λ n. stays repo (upload_refusal id (errors.Range n))) (sym h.1)
refused_outcome repo id None range piece outcome errors.TooLarge h other = absurd h
refused_outcome repo id (Some upload) range piece outcome errors.TooLarge h other =
    taken (goes_on range (length upload.bytes) (length piece)) _ _ h.0 ∙ chosen (keeps_limit upload piece) _ _ (isnt _ h.1)
refused_outcome repo id found range piece outcome (errors.Differ digest) h other = absurd h
refused_outcome repo id found range piece outcome errors.NoMemory h other = absurd (other refl)

-- one that is taken leads to what follows
taken_outcome : (repo : RepoState) (id : ℕ) (upload : OpenUpload) (range : Option Span) (piece : List ℕ) (outcome : Outcome) → goes_on range (length upload.bytes) (length piece) ≡ true → keeps_limit upload piece ≡ true
    → if_taken repo id upload range piece outcome ≡ outcome
taken_outcome repo id upload range piece outcome g k = taken (goes_on range (length upload.bytes) (length piece)) _ _ g ∙ taken (keeps_limit upload piece) _ _ k

-- PATCH of an upload that takes the piece
abbrev pub patched : RepoState → ℕ → List ℕ → Option OpenUpload → Outcome
patched repo id piece found = record { reply = Session id (length (bytes_of found) + length piece) 202; repo = with_sessions repo (with_piece repo.sessions id piece) }

patch_outcome : (repo : RepoState) (id : ℕ) (found : Option OpenUpload) (range : Option Span) (piece : List ℕ) → IsTaken found range piece → at_found repo (plain_patch repo range piece id) found ≡ patched repo id piece found
patch_outcome repo id None range piece h = absurd h
patch_outcome repo id (Some upload) range piece h = taken_outcome repo id upload range piece _ h.0 h.1

pub patch_made : (repo new : RepoState) (id : ℕ) (range : Option Span) (piece : List ℕ) (reply : Reply) → IsTaken (map.get repo.sessions.uploads id) range piece
    → reply ≡ Session id (length (bytes_of (map.get repo.sessions.uploads id)) + length piece) 202 → new ≡ with_sessions repo (with_piece repo.sessions id piece)
    → (moment : ℕ) → MayGive moment repo (calls.Patch (Some id) range piece) reply new
unfolding plain
patch_made repo new id range piece reply h is same moment =
    is_plain moment repo new (calls.Patch (Some id) range piece) reply _ (patch_outcome repo id (map.get repo.sessions.uploads id) range piece h) is same

-- PATCH of an upload that is refused
pub patch_refused : (repo new : RepoState) (id : ℕ) (range : Option Span) (piece : List ℕ) (error : UploadError) (reply : Reply) → Refuses (map.get repo.sessions.uploads id) range piece error
    → reply ≡ upload_refusal id error → new ≡ repo → (moment : ℕ) → MayGive moment repo (calls.Patch (Some id) range piece) reply new
unfolding plain
patch_refused repo new id range piece error reply h is same moment = patch_refused_by repo new id range piece error reply h is same moment (or_memory error) where
  patch_refused_by : (repo new : RepoState) (id : ℕ) (range : Option Span) (piece : List ℕ) (error : UploadError) (reply : Reply) → Refuses (map.get repo.sessions.uploads id) range piece error
      → reply ≡ upload_refusal id error → new ≡ repo → (moment : ℕ) → (error ≡ errors.NoMemory) ⊎ (error ≢ errors.NoMemory) → MayGive moment repo (calls.Patch (Some id) range piece) reply new
  patch_refused_by repo new id range piece error reply h is same moment (inl memory) = lacks moment repo new (calls.Patch (Some id) range piece) reply (is ∙ ap (upload_refusal id) memory) same
  patch_refused_by repo new id range piece error reply h is same moment (inr other) =
      is_plain moment repo new (calls.Patch (Some id) range piece) reply _ (refused_outcome repo id (map.get repo.sessions.uploads id) range piece _ error h other) is same

-- ---- the last piece of an upload

-- a last piece that is refused as any piece, or for the digest, leads to its refusal
whole_refused_outcome : (moment : ℕ) (repo : RepoState) (id : ℕ) (found : Option OpenUpload) (range : Option Span) (digest piece : List ℕ) (error : UploadError) → RefusesWhole found range piece digest error → error ≢ errors.NoMemory
    → at_found repo (plain_finish moment repo range digest piece id) found ≡ stays repo (upload_refusal id error)
whole_refused_outcome moment repo id None range digest piece (errors.Differ other) h differs = absurd h
whole_refused_outcome moment repo id (Some upload) range digest piece (errors.Differ other) h differs =
    taken_outcome repo id upload range piece _ h.0 h.1
    ∙ chosen (is_sound digest (upload.bytes ++ piece)) _ _ (unsound digest (upload.bytes ++ piece) (λ is. h.3 (h.2 ∙ sym is)))
whole_refused_outcome moment repo id found range digest piece errors.NoMemory h differs = absurd (differs refl)
whole_refused_outcome moment repo id found range digest piece errors.Full h differs = absurd h
whole_refused_outcome moment repo id found range digest piece errors.Unknown h differs = refused_outcome repo id found range piece _ errors.Unknown h differs
whole_refused_outcome moment repo id found range digest piece (errors.Range end) h differs = refused_outcome repo id found range piece _ (errors.Range end) h differs
whole_refused_outcome moment repo id found range digest piece errors.TooLarge h differs = refused_outcome repo id found range piece _ errors.TooLarge h differs

-- PUT of an upload that is refused
pub finish_refused : (moment : ℕ) (repo : RepoState) (id : ℕ) (range : Option Span) (digest piece : List ℕ) (error : UploadError) (reply : Reply) → RefusesWhole (map.get repo.sessions.uploads id) range piece digest error
    → reply ≡ upload_refusal id error → MayGive moment repo (calls.Finish (Some id) range digest piece) reply repo
unfolding plain
finish_refused moment repo id range digest piece error reply h is = finish_refused_by moment repo id range digest piece error reply h is (or_memory error) where
  finish_refused_by : (moment : ℕ) (repo : RepoState) (id : ℕ) (range : Option Span) (digest piece : List ℕ) (error : UploadError) (reply : Reply) → RefusesWhole (map.get repo.sessions.uploads id) range piece digest error
      → reply ≡ upload_refusal id error → (error ≡ errors.NoMemory) ⊎ (error ≢ errors.NoMemory) → MayGive moment repo (calls.Finish (Some id) range digest piece) reply repo
  finish_refused_by moment repo id range digest piece error reply h is (inl memory) = lacks moment repo repo (calls.Finish (Some id) range digest piece) reply (is ∙ ap (upload_refusal id) memory) refl
  finish_refused_by moment repo id range digest piece error reply h is (inr other) =
      is_plain moment repo repo (calls.Finish (Some id) range digest piece) reply _ (whole_refused_outcome moment repo id (map.get repo.sessions.uploads id) range digest piece error h other) is refl

-- the blob of all bytes, and an upload less
whole_outcome : (moment : ℕ) (repo : RepoState) (id : ℕ) (found : Option OpenUpload) (range : Option Span) (digest piece : List ℕ) → IsWhole found range piece digest
    → at_found repo (plain_finish moment repo range digest piece id) found
    ≡ record { reply = BlobMade digest; repo = with_blob moment (with_sessions repo (without repo.sessions id)) digest (bytes_of found ++ piece) }
whole_outcome moment repo id None range digest piece h = absurd h
whole_outcome moment repo id (Some upload) range digest piece h =
    taken_outcome repo id upload range piece _ h.0 h.1 ∙ taken (is_sound digest (upload.bytes ++ piece)) _ _ (sound digest (upload.bytes ++ piece) h.2)

-- PUT of an upload whose digest is right, and whose bytes became a blob
pub whole_made : (moment : ℕ) (old new : RepoState) (id : ℕ) (range : Option Span) (digest piece bytes : List ℕ) (reply : Reply) → IsWhole (map.get old.sessions.uploads id) range piece digest
    → bytes ≡ bytes_of (map.get old.sessions.uploads id) ++ piece → reply ≡ BlobMade digest → new ≡ with_blob moment (with_sessions old (without old.sessions id)) digest bytes
    → MayGive moment old (calls.Finish (Some id) range digest piece) reply new
unfolding plain
whole_made moment old new id range digest piece bytes reply whole are is same =
    is_plain moment old new (calls.Finish (Some id) range digest piece) reply _ (whole_outcome moment old id (map.get old.sessions.uploads id) range digest piece whole) is
    (same ∙ ap (with_blob moment (with_sessions old (without old.sessions id)) digest) are)

-- ---- the base route

pub base_given : (moment : ℕ) (repo : RepoState) (reply : Reply) → reply ≡ Base → MayGive moment repo calls.Base reply repo
unfolding plain
base_given moment repo reply is = is_plain moment repo repo calls.Base reply (stays repo Base) refl is refl

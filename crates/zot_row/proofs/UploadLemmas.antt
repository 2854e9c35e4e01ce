-- GET, PATCH and the last PUT of an upload.
use Rattle.std.proofs.Common.{◌≡◌, ◌≢◌, ℕ, ◌+◌, ◌++◌, List, length, Option, Some, None, refl, sym, ap, ◌∙◌}
use Rattle.std.specs.FinMap as finite
use Rattle.zot_model.specs.Refusals.{storage_fault}
use Rattle.zot_model.specs.Uploads.{OpenUpload, UploadTable, bytes_of, with_piece}
use Rattle.zot_model.specs.declared.call.Call.TheVariants as calls
use Rattle.zot_model.specs.declared.reply.Reply.{Reply}
use Rattle.zot_model.specs.declared.reply.Reply.TheVariants.{BlobMade, Session}
use Rattle.zot_model.specs.declared.span.Span.{Span}
use Rattle.zot_row.proofs.QuietLemmas.{quiet_uploads}
use Rattle.zot_row.specs.Doing.{EndsWith}
use Rattle.zot_row.specs.Going.{NeverMounts, Quietly}
use Rattle.zot_row.specs.declared.stage.Attaching.TheVariants as attaching
use Rattle.zot_row.specs.declared.turn.Turn.TheVariants as turns
use Rattle.zot_table.proofs.ReplyLemmas.{finish_refused, patch_made, patch_refused, state_answers, unnamed_finish, unnamed_patch}
use Rattle.zot_table.proofs.ReplyLemmas.{whole_made}
use Rattle.zot_table.specs.Changes.{with_uploads}
use Rattle.zot_table.specs.Refusals.{upload_refusal}
use Rattle.zot_table.specs.Replies.{found_reply, state_reply}
use Rattle.zot_table.specs.Standing.{Holds, repo_of}
use Rattle.zot_table.specs.Tables.{RepoTable}
use Rattle.zot_uploads.specs.Cases.{IsTaken, IsWhole, Refuses, RefusesWhole}
use Rattle.zot_uploads.specs.declared.upload_error.UploadError.{UploadError}
use Rattle.zot_uploads.specs.declared.upload_error.UploadError.TheVariants as errors

-- no upload is refused as a storage fault
calm_refusal : (id : ℕ) (error : UploadError) → upload_refusal id error ≢ storage_fault
calm_refusal id errors.Full h = cc h
calm_refusal id errors.Unknown h = cc h
calm_refusal id (errors.Range end) h = cc h
calm_refusal id errors.TooLarge h = cc h
calm_refusal id (errors.Differ other) h = cc h
calm_refusal id errors.NoMemory h = cc h

calm_found : (id : ℕ) (found : Option OpenUpload) → found_reply id found ≢ storage_fault
calm_found id None h = cc h
calm_found id (Some upload) h = cc h

calm_state : (id : Option ℕ) (sessions : UploadTable) → state_reply id sessions ≢ storage_fault
calm_state None sessions h = cc h
calm_state (Some id) sessions h = calm_found id (finite.get sessions.uploads id) h

-- ---- GET

pub state_quiet : (moment : ℕ) (name : List ℕ) (table : RepoTable) (id : Option ℕ) (reply : Reply) → reply ≡ state_reply id table.sessions → Quietly (calls.UploadState id) moment name table (turns.Done reply) table
state_quiet moment name table id reply is =
    quiet_uploads (calls.UploadState id) moment name table table reply table.sessions (λ h. cc h) (λ h. calm_state id table.sessions (sym is ∙ h)) refl (λ holds. state_answers moment (repo_of table holds) id reply is)

-- ---- PATCH

pub unnamed_quiet : (moment : ℕ) (name : List ℕ) (table : RepoTable) (id : Option ℕ) (range : Option Span) (body : List ℕ) (reply : Reply) → id ≡ None → reply ≡ upload_refusal 0 errors.Unknown
    → Quietly (calls.Patch id range body) moment name table (turns.Done reply) table
unnamed_quiet moment name table id range body reply none is =
    quiet_uploads (calls.Patch id range body) moment name table table reply table.sessions (λ h. cc h) (λ h. calm_refusal 0 errors.Unknown (sym is ∙ h)) refl
    (λ holds. unnamed_patch (repo_of table holds) id range body reply none is moment)

pub patched_quiet : (moment : ℕ) (name : List ℕ) (old new : RepoTable) (id : ℕ) (range : Option Span) (body : List ℕ) (reply : Reply) → IsTaken (finite.get old.sessions.uploads id) range body
    → reply ≡ Session id (length (bytes_of (finite.get old.sessions.uploads id)) + length body) 202 → new ≡ with_uploads old (with_piece old.sessions id body)
    → Quietly (calls.Patch (Some id) range body) moment name old (turns.Done reply) new
patched_quiet moment name old new id range body reply taken is same =
    quiet_uploads (calls.Patch (Some id) range body) moment name old new reply (with_piece old.sessions id body) (λ h. cc h) (λ h. cc (sym is ∙ h)) same
    (λ holds. patch_made (repo_of old holds) (repo_of new holds) id range body reply taken is (ap (λ (t : RepoTable). repo_of t holds) same) moment)

pub unpatched_quiet : (moment : ℕ) (name : List ℕ) (old new : RepoTable) (id : ℕ) (range : Option Span) (body : List ℕ) (error : UploadError) (reply : Reply) → Refuses (finite.get old.sessions.uploads id) range body error
    → reply ≡ upload_refusal id error → new ≡ old → Quietly (calls.Patch (Some id) range body) moment name old (turns.Done reply) new
unpatched_quiet moment name old new id range body error reply refuses is same =
    quiet_uploads (calls.Patch (Some id) range body) moment name old new reply old.sessions (λ h. cc h) (λ h. calm_refusal id error (sym is ∙ h)) same
    (λ holds. patch_refused (repo_of old holds) (repo_of new holds) id range body error reply refuses is (ap (λ (t : RepoTable). repo_of t holds) same) moment)

-- ---- the last PUT

pub unfinished_quiet : (moment : ℕ) (name : List ℕ) (table : RepoTable) (id : Option ℕ) (range : Option Span) (digest body : List ℕ) (reply : Reply) → id ≡ None → reply ≡ upload_refusal 0 errors.Unknown
    → Quietly (calls.Finish id range digest body) moment name table (turns.Done reply) table
unfinished_quiet moment name table id range digest body reply none is =
    quiet_uploads (calls.Finish id range digest body) moment name table table reply table.sessions (λ h. cc h) (λ h. calm_refusal 0 errors.Unknown (sym is ∙ h)) refl
    (λ holds. unnamed_finish moment (repo_of table holds) id range digest body reply none is)

pub refused_quiet : (moment : ℕ) (name : List ℕ) (table : RepoTable) (id : ℕ) (range : Option Span) (digest body : List ℕ) (error : UploadError) (reply : Reply) → RefusesWhole (finite.get table.sessions.uploads id) range body digest error
    → reply ≡ upload_refusal id error → Quietly (calls.Finish (Some id) range digest body) moment name table (turns.Done reply) table
refused_quiet moment name table id range digest body error reply refuses is =
    quiet_uploads (calls.Finish (Some id) range digest body) moment name table table reply table.sessions (λ h. cc h) (λ h. calm_refusal id error (sym is ∙ h)) refl
    (λ holds. finish_refused moment (repo_of table holds) id range digest body error reply refuses is)

-- once all its bytes are held, the upload has ended as a blob
finish_ends : (moment : ℕ) (table : RepoTable) (holds : Holds) (id : ℕ) (range : Option Span) (digest piece bytes : List ℕ) → IsWhole (finite.get table.sessions.uploads id) range piece digest
    → bytes ≡ bytes_of (finite.get table.sessions.uploads id) ++ piece → EndsWith (attaching.Upload id) digest bytes (repo_of table holds) (calls.Finish (Some id) range digest piece) moment
finish_ends moment table holds id range digest piece bytes whole are = whole_made moment (repo_of table holds) _ id range digest piece bytes (BlobMade digest) whole are refl refl

-- so is a list that is made of them
pub finish_made : (moment : ℕ) (table : RepoTable) (holds : Holds) (id : ℕ) (range : Option Span) (digest piece bytes made : List ℕ) → IsWhole (finite.get table.sessions.uploads id) range piece digest
    → bytes ≡ bytes_of (finite.get table.sessions.uploads id) ++ piece → made ≡ bytes → EndsWith (attaching.Upload id) digest made (repo_of table holds) (calls.Finish (Some id) range digest piece) moment
finish_made moment table holds id range digest piece bytes made whole are same = finish_ends moment table holds id range digest piece made whole (same ∙ are)

-- no last PUT mounts
pub never_finish : (id : Option ℕ) (range : Option Span) (digest piece : List ℕ) → NeverMounts (calls.Finish id range digest piece)
never_finish id range digest piece wanted from asks = cc asks.is

-- POST of a blob that is given whole, and of a new upload.
use Rattle.std.proofs.Common.{◌≡◌, inl, inr, ℕ, ◌+◌, true, false, List, Option, Some, None, refl, sym, ap, subst}
use Rattle.zot_digest.specs.Digest.{IsSound}
use Rattle.zot_model.specs.Outcomes.{with_blob}
use Rattle.zot_model.specs.PlainUploads.{with_upload}
use Rattle.zot_model.specs.Refusals.{refusal}
use Rattle.zot_model.specs.State.{RepoState}
use Rattle.zot_model.specs.Uploads.{is_full, with_new}
use Rattle.zot_model.specs.declared.call.Call.TheVariants as calls
use Rattle.zot_model.specs.declared.code.Code.TheVariants.{DigestInvalid, TooManyRequests}
use Rattle.zot_model.specs.declared.mount.Mount.{Mount}
use Rattle.zot_model.specs.declared.reply.Reply.{Reply}
use Rattle.zot_model.specs.declared.reply.Reply.TheVariants.{BlobMade, Session}
use Rattle.zot_outside.specs.Objects.{Objects}
use Rattle.zot_row.proofs.PartLemmas.{quiet_stands, stands_then}
use Rattle.zot_row.proofs.QuietLemmas.{may_end, quiet_done}
use Rattle.zot_row.proofs.StartLemmas.{known_want}
use Rattle.zot_row.specs.Doing.{EndsWith}
use Rattle.zot_row.specs.Going.{KeepsOthers, KeepsStanding, NeverMounts, Opens, Quietly, Starts}
use Rattle.zot_row.specs.declared.stage.Attaching.TheVariants as attaching
use Rattle.zot_row.specs.declared.turn.Turn.TheVariants as turns
use Rattle.zot_table.proofs.ReplyLemmas.{begun, not_begun}
use Rattle.zot_table.proofs.StandingLemmas.{know_agrees, uploads_agree}
use Rattle.zot_table.proofs.ReplyLemmas.{post_made, post_unsound}
use Rattle.zot_table.specs.Changes.{known_as, with_uploads}
use Rattle.zot_table.specs.Standing.{repo_of}
use Rattle.zot_table.specs.Tables.{RepoTable}
use Rattle.zot_uploads.specs.declared.upload_error.UploadError.TheVariants as errors

-- ---- calls that mount nothing

pub never_without : (digest : Option (List ℕ)) (body : List ℕ) → NeverMounts (calls.Post None digest body)
never_without digest body wanted from asks = cc asks.is

pub never_unnamed : (mount : Mount) (digest : Option (List ℕ)) (body : List ℕ) → mount.from ≡ None → NeverMounts (calls.Post (Some mount) digest body)
never_unnamed mount digest body none wanted from asks = let is = asks.is in cc (none, is)

-- ---- a blob

pub unsound_quiet : (moment : ℕ) (name : List ℕ) (table : RepoTable) (mount : Option Mount) (digest body : List ℕ) → (¬ IsSound digest body) → Quietly (calls.Post mount (Some digest) body) moment name table (turns.Done (refusal DigestInvalid)) table
unsound_quiet moment name table mount digest body unsound =
    quiet_done (calls.Post mount (Some digest) body) moment name table (refusal DigestInvalid) (λ holds agrees. post_unsound moment (repo_of table holds) mount digest body (refusal DigestInvalid) unsound refl)
    (inr (inl refl, refl, tt)) (λ h. cc h)

-- once its bytes are held, it is a blob
pub post_ends : (moment : ℕ) (old : RepoState) (mount : Option Mount) (digest body : List ℕ) → IsSound digest body → EndsWith attaching.Blob digest body old (calls.Post mount (Some digest) body) moment
post_ends moment old mount digest body sound = post_made moment old mount digest body (BlobMade digest) (with_blob moment old digest body) sound refl refl

-- so is a copy of them
pub post_copied : (moment : ℕ) (old : RepoState) (mount : Option Mount) (digest body copy : List ℕ) → IsSound digest body → copy ≡ body → EndsWith attaching.Blob digest copy old (calls.Post mount (Some digest) body) moment
post_copied moment old mount digest body copy sound same = subst (λ (b : List ℕ). EndsWith attaching.Blob digest b old (calls.Post mount (Some digest) body) moment) (sym same) (post_ends moment old mount digest body sound)

-- ---- a new upload

pub full_quiet : (moment : ℕ) (name : List ℕ) (table : RepoTable) (mount : Option Mount) (body : List ℕ) → is_full table.sessions ≡ true → Quietly (calls.Post mount None body) moment name table (turns.Done (refusal TooManyRequests)) table
full_quiet moment name table mount body full =
    quiet_done (calls.Post mount None body) moment name table (refusal TooManyRequests)
    (λ holds agrees. not_begun moment (repo_of table holds) (repo_of table holds) mount body errors.Full (refusal TooManyRequests) full refl refl) (inr (inl refl, refl, tt)) (λ h. cc h)

-- a repository that was made known opens an upload
pub open_starts : (moment : ℕ) (name : List ℕ) (old mid new : RepoTable) (mount : Option Mount) (body : List ℕ) (reply : Reply) (objects later : Option Objects) (before after : ℕ) → NeverMounts (calls.Post mount None body) → after ≡ before
    → mid ≡ known_as true old → KeepsStanding objects name old later mid → KeepsOthers objects name old later → Opens moment mid reply new
    → Starts (calls.Post mount None body) moment name old objects before (turns.Done reply) new later after
open_starts moment name old mid new mount body reply objects later before after never stay is stands beside opens =
    split (subst (λ (t : RepoTable). KeepsStanding objects name old later t) is stands) (subst (λ (t : RepoTable). Opens moment t reply new) is opens) where
      begins : KeepsStanding objects name old later (known_as true old) → is_full old.sessions ≡ false → Starts (calls.Post mount None body) moment name old objects before (turns.Done (Session (old.sessions.opened + 1) 0 202)) (with_uploads (known_as true old) (with_new moment old.sessions)) later after
      begins kept room = record {
        answer = λ holds failed agrees. (
          uploads_agree (known_as true old) holds (with_new moment old.sessions) (know_agrees old holds true agrees),
          may_end moment (repo_of old holds) (with_upload moment (repo_of old holds)) (calls.Post mount None body) (Session (old.sessions.opened + 1) 0 202) (before + failed) (after + failed)
              (begun moment (repo_of old holds) (with_upload moment (repo_of old holds)) mount body (Session (old.sessions.opened + 1) 0 202) room refl refl) (ap (λ n. n + failed) stay),
        );
        stands = stands_then objects later later name old (known_as true old) (with_uploads (known_as true old) (with_new moment old.sessions)) kept
            (quiet_stands later name (known_as true old) (with_uploads (known_as true old) (with_new moment old.sessions)) (record { known = refl; manifests = refl; tags = λ _. refl }));
        beside = beside;
        faults = record { failed = λ h. cc h; kept = λ _. stay };
        fits = inl refl;
        mount = λ d from asks. absurd (never d from asks);
      }

      split : KeepsStanding objects name old later (known_as true old) → Opens moment (known_as true old) reply new → Starts (calls.Post mount None body) moment name old objects before (turns.Done reply) new later after
      split kept (inl h) =
          subst (λ (t : RepoTable). Starts (calls.Post mount None body) moment name old objects before (turns.Done reply) t later after) (sym h.2)
          (subst (λ (r : Reply). Starts (calls.Post mount None body) moment name old objects before (turns.Done r) (with_uploads (known_as true old) (with_new moment old.sessions)) later after) (sym h.1) (begins kept h.0))
      split kept (inr h) =
          subst (λ (t : RepoTable). Starts (calls.Post mount None body) moment name old objects before (turns.Done reply) t later after) (sym h.1)
          (subst (λ (r : Reply). Starts (calls.Post mount None body) moment name old objects before (turns.Done r) (known_as true old) later after) (sym h.0)
          (known_want (calls.Post mount None body) moment name old objects later before after (λ e. cc e) never stay kept beside))

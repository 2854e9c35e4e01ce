-- What a plain registry answers to a request on a repository, case by case.
use Rattle.std.specs.Prelude.{◌≡◌, ◌≤◌, ◌+◌, ◌-◌, ◌^◌, min, ℕ, List, [], ◌∷◌, Some, None, ◌⊎◌}
use Rattle.sha2.specs.Sha256.{sha256}
use Rattle.zot_model.specs.declared.call.Call.{Call}
use Rattle.zot_model.specs.declared.call.Call.TheVariants.{Base, DeleteBlob, DeleteManifest, Finish, GetBlob, GetManifest, HeadBlob, HeadManifest, Patch, Post, PutManifest, Referrers, Tags, UploadState}
use Rattle.zot_model.specs.declared.reply.Reply.{Reply}
use Rattle.zot_model.specs.declared.reply.Reply.TheVariants as replies
use Rattle.zot_model.specs.Among.{IsAmong}
use Rattle.zot_model.specs.Outcomes.{Outcome, stays, with_blob}
use Rattle.zot_model.specs.PlainBlobs.{plain_delete, plain_get, plain_head, plain_post}
use Rattle.zot_model.specs.PlainManifests.{plain_delete_manifest, plain_get_manifest, plain_head_manifest, plain_put, plain_tags}
use Rattle.zot_model.specs.PlainReferrers.{plain_referrers}
use Rattle.zot_model.specs.PlainUploads.{at_upload, plain_begin, plain_finish, plain_patch, plain_state}
use Rattle.zot_model.specs.Refusals.{no_memory, storage_fault}
use Rattle.zot_model.specs.State.{Becomes, RepoState, RowState, made_known, repo_at}

-- the first case that fits a request, at this moment; no blob is taken over from another repository yet. The base route is asked of no repository
unfoldable pub plain : ℕ → RepoState → Call → Outcome
plain moment repo (GetBlob digest) = plain_get repo digest
plain moment repo (HeadBlob digest) = plain_head repo digest
plain moment repo (Post mount (Some digest) body) = plain_post moment repo digest body
plain moment repo (Post mount None body) = plain_begin moment repo
plain moment repo (UploadState id) = at_upload repo id (plain_state repo)
plain moment repo (Patch id range body) = at_upload repo id (plain_patch repo range body)
plain moment repo (Finish id range digest body) = at_upload repo id (plain_finish moment repo range digest body)
plain moment repo (DeleteBlob digest) = plain_delete repo digest
plain moment repo (PutManifest reference media body) = plain_put moment repo reference media body
plain moment repo (GetManifest reference) = plain_get_manifest moment repo reference
plain moment repo (HeadManifest reference) = plain_head_manifest repo reference
plain moment repo (DeleteManifest reference) = plain_delete_manifest repo reference
plain moment repo (Tags n last) = plain_tags repo n last
plain moment repo (Referrers digest filter) = plain_referrers repo digest filter
plain moment repo Base = stays repo replies.Base

-- ---- the ways in which a request may be answered

-- the reply and the repository are those of the first case that fits
pub record IsPlain (moment : ℕ) (old : RepoState) (call : Call) (reply : Reply) (new : RepoState) : Type 0 where
  pub reply_is : reply ≡ (plain moment old call).reply
  pub repo_is : new ≡ (plain moment old call).repo

-- what a call that couldn't be answered may leave beside: a pushed manifest's body, as a blob
abbrev pub bodies_left : ℕ → RepoState → Call → List RepoState
bodies_left moment old Base = []
bodies_left moment old (GetBlob digest) = []
bodies_left moment old (HeadBlob digest) = []
bodies_left moment old (DeleteBlob digest) = []
bodies_left moment old (Post mount digest body) = []
bodies_left moment old (Patch id range body) = []
bodies_left moment old (Finish id range digest body) = []
bodies_left moment old (UploadState id) = []
bodies_left moment old (PutManifest reference media body) = with_blob moment old (sha256 body) body ∷ []
bodies_left moment old (GetManifest reference) = []
bodies_left moment old (HeadManifest reference) = []
bodies_left moment old (DeleteManifest reference) = []
bodies_left moment old (Tags n last) = []
bodies_left moment old (Referrers digest filter) = []

-- what a call that couldn't be answered may leave of a repository: it as it was, or known, or with a pushed manifest's body
abbrev pub leavings : ℕ → RepoState → Call → List RepoState
leavings moment old call = old ∷ made_known old ∷ bodies_left moment old call

-- memory ran out
pub record LacksMemory (moment : ℕ) (old : RepoState) (call : Call) (reply : Reply) (new : RepoState) : Type 0 where
  pub reply_is : reply ≡ no_memory
  pub leaves : IsAmong (leavings moment old call) new

-- the storage failed
pub record FailsToStore (moment : ℕ) (old : RepoState) (call : Call) (reply : Reply) (new : RepoState) : Type 0 where
  pub reply_is : reply ≡ storage_fault
  pub leaves : IsAmong (leavings moment old call) new

-- ---- storage faults

-- a row's storage faults stay as many
abbrev pub Stay : ℕ → ℕ → Type 0
Stay before after = after ≡ before

-- or there are more of them; a count of 64 bits stands still at its end
pub record Rise (before after : ℕ) : Type 0 where
  pub later : before ≤ after
  pub rose : min (before + 1) (2 ^ 64 - 1) ≤ after

-- the repository of the name changes in this way, other repositories stay, and the storage faults are counted so
pub record Goes (Counts : ℕ → ℕ → Type 0) (Way : RepoState → RepoState → Type 0) (old : RowState) (name : List ℕ) (new : RowState) : Type 0 where
  pub repo : RepoState
  pub way : Way (repo_at old name) repo
  pub becomes : Becomes old name repo new
  pub faults : Counts old.faults new.faults

-- a call on the repository of a name may be answered so at a moment, and leads from the old row to the new one. The storage faults rise where the answer says so, and nowhere else
abbrev pub MayAnswer : ℕ → RowState → List ℕ → Call → Reply → RowState → Type 0
MayAnswer moment old name call reply new =
    Goes Stay (λ repo after. IsPlain moment repo call reply after) old name new
    ⊎ Goes Stay (λ repo after. LacksMemory moment repo call reply after) old name new
    ⊎ Goes Rise (λ repo after. FailsToStore moment repo call reply after) old name new

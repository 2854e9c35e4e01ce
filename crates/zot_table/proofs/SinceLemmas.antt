-- What a call leads to that has made its repository known before it asked for bytes to be held.
use Rattle.std.proofs.Common.{◌≡◌, ℕ, List, length, Some, ap, ◌∙◌}
use Rattle.zot_manifests.specs.declared.checked.Checked.{Checked}
use Rattle.zot_model.specs.Outcomes.{with_blob}
use Rattle.zot_model.specs.PlainUploads.{with_sessions}
use Rattle.zot_model.specs.State.{RepoState, made_known}
use Rattle.zot_model.specs.Uploads.{UploadTable, without}
use Rattle.zot_table.proofs.ManifestLemmas.{put_agrees, put_is}
use Rattle.zot_table.proofs.StandingLemmas.{fill_agrees, fill_is, settle_is}
use Rattle.zot_table.specs.Changes.{known_as, settled, with_checked, with_entry, with_uploads}
use Rattle.zot_table.specs.Replies.{with_checked as plain_with_checked}
use Rattle.zot_table.specs.Repository.{IsOf}
use Rattle.zot_table.specs.Standing.{Agrees, Holds, Sets, repo_of}
use Rattle.zot_table.specs.Tables.{RepoTable}

module _ (table : RepoTable) (holds : Holds) (old : RepoState) (since : repo_of table holds ≡ made_known old) where
  -- room that wasn't taken goes, and the repository may be forgotten again
  pub settle_since : (digest : List ℕ) → repo_of (settled table digest) holds ≡ made_known old
  settle_since digest = settle_is table holds digest ∙ since

  pub forget_since : repo_of (known_as old.known table) holds ≡ old
  forget_since = ap (λ (r : RepoState). record { known = old.known; blobs = r.blobs; manifests = r.manifests; tags = r.tags; sessions = r.sessions }) since

  module _ (after : Holds) (moment : ℕ) (digest bytes : List ℕ) (size : ℕ) (sets : Sets holds digest (Some bytes) after) where
    -- the bytes are a blob
    pub blob_since : repo_of (with_entry moment table digest size) after ≡ with_blob moment old digest bytes
    blob_since = fill_is moment table holds after digest bytes size sets ∙ ap (λ (r : RepoState). with_blob moment r digest bytes) since

    -- they were those of an upload, which ends
    pub upload_since : (id : ℕ) → repo_of (with_uploads (with_entry moment table digest size) (without table.sessions id)) after ≡ with_blob moment (with_sessions old (without old.sessions id)) digest bytes
    upload_since id =
        ap (λ (r : RepoState). with_sessions r (without table.sessions id)) blob_since
        ∙ ap (λ (u : UploadTable). with_sessions (with_blob moment old digest bytes) (without u id)) (ap (λ (r : RepoState). r.sessions) since)

    -- they are a manifest's
    pub manifest_since : (checked : Checked) → repo_of (with_checked moment (with_entry moment table digest size) checked) after ≡ plain_with_checked moment (with_blob moment old digest bytes) checked
    manifest_since checked = put_is moment (with_entry moment table digest size) after checked ∙ ap (λ (r : RepoState). plain_with_checked moment r checked) blob_since

-- what is held fits a manifest's table
pub manifest_agrees : (moment : ℕ) (table : RepoTable) (holds after : Holds) (checked : Checked) (bytes : List ℕ) (size : ℕ) → Agrees table holds → Sets holds checked.digest (Some bytes) after → length bytes ≡ size → IsOf checked bytes
    → Agrees (with_checked moment (with_entry moment table checked.digest size) checked) after
manifest_agrees moment table holds after checked bytes size agrees sets long of =
    put_agrees moment (with_entry moment table checked.digest size) after checked bytes (fill_agrees moment table holds after checked.digest bytes size agrees sets long) sets.here of

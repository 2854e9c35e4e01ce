-- What is answered by a table is what the plain registry answers.
use Rattle.std.proofs.Common.{◌≡◌, ◌⊎◌, ℕ, true, false, List, length, Option, Some, None, is_some, unwrap_or, refl, sym, ap, subst, ◌∙◌}
use Rattle.std.specs.Prelude.{IsSomeAnd, Ok, Err, option_map}
use Rattle.std.specs.FinMap as finite
use Rattle.zot_manifests.specs.Check.{check_of}
use Rattle.zot_manifests.specs.declared.check_error.CheckError.{CheckError}
use Rattle.zot_manifests.specs.declared.checked.Checked.{Checked}
use Rattle.zot_media.specs.Referrers.{referrers_text}
use Rattle.zot_media.specs.declared.media.Media.{Media}
use Rattle.zot_media.specs.declared.reference.Reference.{Reference}
use Rattle.zot_media.specs.declared.reference.Reference.TheVariants as by
use Rattle.zot_model.specs.Outcomes.{with_blob}
use Rattle.zot_model.specs.PlainBlobs.{found_or, without_blob}
use Rattle.zot_model.specs.PlainUploads.{with_upload}
use Rattle.zot_model.specs.Refusals.{not_allowed, refusal}
use Rattle.zot_model.specs.State.{RepoState, Stored}
use Rattle.zot_model.specs.Uploads.{with_new}
use Rattle.zot_model.specs.declared.call.Call.TheVariants as calls
use Rattle.zot_model.specs.declared.code.Code.TheVariants.{BlobUnknown, ManifestUnknown}
use Rattle.zot_model.specs.declared.methods.Methods.TheVariants as methods
use Rattle.zot_model.specs.declared.reply.Reply.{Reply}
use Rattle.zot_model.specs.declared.reply.Reply.TheVariants.{Blob, BlobHead, Deleted, Manifest, ManifestHead, Referrers}
use Rattle.zot_referrers.specs.Listing.{all_pushed}
use Rattle.zot_table.proofs.ManifestLemmas.{found_held, found_none, found_some}
use Rattle.zot_table.proofs.ManifestReplyLemmas as plainly
use Rattle.zot_table.proofs.ManifestReplyLemmas.{IsShort, referrers_given}
use Rattle.zot_table.proofs.ReadingLemmas.{manifest_needed, needed_is, not_needed, pushed_is}
use Rattle.zot_table.proofs.ReplyLemmas.{get_answers, head_answers}
use Rattle.zot_table.proofs.StandingLemmas.{bytes_are, clear_agrees, clear_is, none_held, none_stored, size_is, sizes_are}
use Rattle.zot_table.specs.Changes.{known_as, with_pull_of, with_uploads, without_entry, without_named}
use Rattle.zot_table.specs.Refusals.{put_refusal}
use Rattle.zot_table.specs.Replies.{MayGive, made_reply, with_checked as plain_with_checked}
use Rattle.zot_table.specs.Standing.{Agrees, AllRead, Holds, Sets, repo_of}
use Rattle.zot_table.specs.Tables.{RepoTable, found_in, has_named, is_needed_in, size_at}
use Rattle.zot_table.specs.declared.found_entry.FoundEntry.{FoundEntry}

-- ---- blobs

blob_of : (reply : List ℕ → Reply) (found : Option Stored) (bytes : List ℕ) → option_map (λ (s : Stored). s.bytes) found ≡ Some bytes → found_or (λ stored. reply stored.bytes) found ≡ reply bytes
blob_of reply None bytes h = cc h
blob_of reply (Some stored) bytes h = ap reply (ap (λ o. unwrap_or o bytes) h)

size_reply : (reply : ℕ → Reply) (found : Option Stored) (size : ℕ) → option_map (λ (s : Stored). length s.bytes) found ≡ Some size → found_or (λ stored. reply (length stored.bytes)) found ≡ reply size
size_reply reply None size h = cc h
size_reply reply (Some stored) size h = ap reply (ap (λ o. unwrap_or o size) h)

there : (found : Option Stored) (size : ℕ) → option_map (λ (s : Stored). length s.bytes) found ≡ Some size → is_some found ≡ true
there None size h = cc h
there (Some stored) size h = refl

module _ (moment : ℕ) (table : RepoTable) (holds : Holds) (agrees : Agrees table holds) (digest : List ℕ) (reply : Reply) where
  pub head_none : size_at table.slots digest ≡ None → reply ≡ refusal BlobUnknown → MayGive moment (repo_of table holds) (calls.HeadBlob digest) reply (repo_of table holds)
  head_none none is = head_answers moment (repo_of table holds) digest reply (is ∙ ap (found_or (λ stored. BlobHead digest (length stored.bytes))) (sym (none_stored table holds agrees digest (none_held table holds agrees digest none))))

  pub head_some : (size : ℕ) → size_at table.slots digest ≡ Some size → reply ≡ BlobHead digest size → MayGive moment (repo_of table holds) (calls.HeadBlob digest) reply (repo_of table holds)
  head_some size has is = head_answers moment (repo_of table holds) digest reply (is ∙ sym (size_reply (BlobHead digest) (finite.get (repo_of table holds).blobs digest) size (sym (size_is table holds agrees digest) ∙ has)))

  pub get_none : size_at table.slots digest ≡ None → reply ≡ refusal BlobUnknown → MayGive moment (repo_of table holds) (calls.GetBlob digest) reply (repo_of table holds)
  get_none none is = get_answers moment (repo_of table holds) digest reply (is ∙ ap (found_or (λ stored. Blob digest stored.bytes)) (sym (none_stored table holds agrees digest (none_held table holds agrees digest none))))

  pub get_some : (bytes : List ℕ) → holds digest ≡ Some bytes → reply ≡ Blob digest bytes → MayGive moment (repo_of table holds) (calls.GetBlob digest) reply (repo_of table holds)
  get_some bytes has is = get_answers moment (repo_of table holds) digest reply (is ∙ sym (blob_of (Blob digest) (finite.get (repo_of table holds).blobs digest) bytes (bytes_are table holds agrees digest ∙ has)))

  pub delete_none : size_at table.slots digest ≡ None → reply ≡ refusal BlobUnknown → MayGive moment (repo_of table holds) (calls.DeleteBlob digest) reply (repo_of table holds)
  delete_none none is = plainly.blob_unknown moment (repo_of table holds) digest reply (none_stored table holds agrees digest (none_held table holds agrees digest none)) is

  is_there : (size : ℕ) → size_at table.slots digest ≡ Some size → is_some (finite.get (repo_of table holds).blobs digest) ≡ true
  is_there size has = there (finite.get (repo_of table holds).blobs digest) size (sym (size_is table holds agrees digest) ∙ has)

  -- a blob that is a manifest, whether all are read or not
  pub delete_manifest : (size : ℕ) → size_at table.slots digest ≡ Some size → finite.contains_key table.table.manifests digest ≡ true → reply ≡ not_allowed methods.Read
      → MayGive moment (repo_of table holds) (calls.DeleteBlob digest) reply (repo_of table holds)
  delete_manifest size has is_one is = plainly.blob_needed moment (repo_of table holds) digest reply (is_there size has) (manifest_needed table holds digest is_one) is

  pub delete_needed : (size : ℕ) → AllRead table → size_at table.slots digest ≡ Some size → is_needed_in table digest ≡ true → reply ≡ not_allowed methods.Read
      → MayGive moment (repo_of table holds) (calls.DeleteBlob digest) reply (repo_of table holds)
  delete_needed size all has needs is = plainly.blob_needed moment (repo_of table holds) digest reply (is_there size has) (needed_is table holds agrees all digest ∙ needs) is

  -- one that may go
  pub delete_ends : (size : ℕ) → AllRead table → size_at table.slots digest ≡ Some size → is_needed_in table digest ≡ false → reply ≡ Deleted → MayGive moment (repo_of table holds) (calls.DeleteBlob digest) reply (without_blob (repo_of table holds) digest)
  delete_ends size all has free is = plainly.blob_deleted moment (repo_of table holds) (without_blob (repo_of table holds) digest) digest reply (is_there size has) (needed_is table holds agrees all digest ∙ free) is refl

  pub delete_made : (after : Holds) (size : ℕ) → AllRead table → size_at table.slots digest ≡ Some size → is_needed_in table digest ≡ false → Sets holds digest None after → reply ≡ Deleted
      → MayGive moment (repo_of table holds) (calls.DeleteBlob digest) reply (repo_of (without_entry table digest) after) × Agrees (without_entry table digest) after
  delete_made after size all has free sets is = (
    plainly.blob_deleted moment (repo_of table holds) (repo_of (without_entry table digest) after) digest reply (is_there size has) (needed_is table holds agrees all digest ∙ free) is (clear_is table holds after digest sets),
    clear_agrees table holds after digest agrees (not_needed table digest free) sets,
  )

-- ---- uploads

-- a new upload makes a repository known
pub begin_is : (moment : ℕ) (table : RepoTable) (holds : Holds) → repo_of (with_uploads (known_as true table) (with_new moment table.sessions)) holds ≡ with_upload moment (repo_of table holds)
begin_is moment table holds = refl

-- ---- manifests

module _ (moment : ℕ) (table : RepoTable) (holds : Holds) (agrees : Agrees table holds) (reference : Reference) (reply : Reply) where
  pub get_manifest_none : found_in table reference ≡ None → reply ≡ refusal ManifestUnknown → MayGive moment (repo_of table holds) (calls.GetManifest reference) reply (repo_of table holds)
  get_manifest_none none is = plainly.get_unknown moment (repo_of table holds) reference reply (found_none table holds agrees reference none) is

  pub get_manifest_some : (found : FoundEntry) (bytes : List ℕ) → found_in table reference ≡ Some found → holds found.digest ≡ Some bytes → reply ≡ Manifest found.digest found.media bytes
      → MayGive moment (repo_of table holds) (calls.GetManifest reference) reply (repo_of (with_pull_of moment table reference) holds)
  get_manifest_some found bytes has are is =
      plainly.get_known moment (repo_of table holds) (repo_of (with_pull_of moment table reference) holds) reference reply (record { digest = found.digest; media = found.media; bytes = bytes })
      (found_some table holds agrees reference found bytes has are) is refl

  pub head_manifest_none : found_in table reference ≡ None → reply ≡ refusal ManifestUnknown → MayGive moment (repo_of table holds) (calls.HeadManifest reference) reply (repo_of table holds)
  head_manifest_none none is = plainly.head_unknown moment (repo_of table holds) reference reply (found_none table holds agrees reference none) is

  pub head_manifest_some : (found : FoundEntry) → found_in table reference ≡ Some found → reply ≡ ManifestHead found.digest found.media found.size
      → MayGive moment (repo_of table holds) (calls.HeadManifest reference) reply (repo_of table holds)
  head_manifest_some found has is = split (holds found.digest) refl (found_held table holds agrees reference found has) where
    split : (held : Option (List ℕ)) → holds found.digest ≡ held → IsSomeAnd held (λ bytes. length bytes ≡ found.size) → MayGive moment (repo_of table holds) (calls.HeadManifest reference) reply (repo_of table holds)
    split None are long = absurd long
    split (Some bytes) are long =
        plainly.head_known moment (repo_of table holds) reference reply (record { digest = found.digest; media = found.media; bytes = bytes })
        (found_some table holds agrees reference found bytes has are) (is ∙ ap (ManifestHead found.digest found.media) (sym long))

module _ (moment : ℕ) (table : RepoTable) (holds : Holds) (agrees : Agrees table holds) (reference : Reference) (media : Option Media) (body : List ℕ) (reply : Reply) where
  pub put_refused : (error : CheckError) → (Err error ≡ check_of (size_at table.slots) reference media body) ⊎ IsShort (Err error) → reply ≡ put_refusal error
      → MayGive moment (repo_of table holds) (calls.PutManifest reference media body) reply (repo_of table holds)
  put_refused error refused is =
      plainly.put_refused moment (repo_of table holds) reference media body error reply
      (subst (λ sizes. (Err error ≡ check_of sizes reference media body) ⊎ IsShort (Err error)) (sizes_are table holds agrees) refused) is

  -- one whose bytes became a blob, and which was put then
  pub put_made : (new : RepoState) (checked : Checked) → (Ok checked ≡ check_of (size_at table.slots) reference media body) ⊎ IsShort (Ok checked) → reply ≡ made_reply checked
      → new ≡ plain_with_checked moment (with_blob moment (repo_of table holds) checked.digest body) checked → MayGive moment (repo_of table holds) (calls.PutManifest reference media body) reply new
  put_made new checked right is same =
      plainly.put_made moment (repo_of table holds) new reference media body checked reply
      (subst (λ sizes. (Ok checked ≡ check_of sizes reference media body) ⊎ IsShort (Ok checked)) (sizes_are table holds agrees) right) is same

module _ (moment : ℕ) (table : RepoTable) (holds : Holds) where
  pub delete_manifest_none : (reference : Reference) (reply : Reply) → has_named table reference ≡ false → reply ≡ refusal ManifestUnknown → MayGive moment (repo_of table holds) (calls.DeleteManifest reference) reply (repo_of table holds)
  delete_manifest_none (by.Tag tag) reply none is = plainly.tag_unknown moment (repo_of table holds) (repo_of table holds) tag reply none is refl
  delete_manifest_none (by.Digest digest) reply none is =
      plainly.manifest_unknown table.known (repo_of table holds).blobs table.table table.table table.sessions moment digest reply none is refl

  pub delete_manifest_made : (reference : Reference) (reply : Reply) → has_named table reference ≡ true → reply ≡ Deleted
      → MayGive moment (repo_of table holds) (calls.DeleteManifest reference) reply (repo_of (without_named table reference) holds)
  delete_manifest_made (by.Tag tag) reply has is = plainly.tag_deleted moment (repo_of table holds) (repo_of (without_named table (by.Tag tag)) holds) tag reply has is refl
  delete_manifest_made (by.Digest digest) reply has is =
      plainly.manifest_deleted table.known (repo_of table holds).blobs table.table (without_named table (by.Digest digest)).table table.sessions moment digest reply has is refl

-- ---- referrers

pub referrers_made : (moment : ℕ) (table : RepoTable) (holds : Holds) (digest : List ℕ) (filter : Option (List ℕ)) (reply : Reply) → Agrees table holds → AllRead table
    → reply ≡ Referrers (referrers_text (all_pushed (size_at table.slots) table.table.manifests) digest filter) (is_some filter)
    → MayGive moment (repo_of table holds) (calls.Referrers digest filter) reply (repo_of table holds)
referrers_made moment table holds digest filter reply agrees all is =
    referrers_given moment (repo_of table holds) digest filter reply (is ∙ ap (λ pushed. Referrers (referrers_text pushed digest filter) (is_some filter)) (pushed_is table holds agrees all))

-- What is answered to requests on manifests and tags is what the plain registry answers.
use Rattle.std.proofs.Common.{◌≡◌, ◌⊎◌, inl, inr, ℕ, Bool, true, false, List, [], ◌∷◌, length, Option, Some, None, is_some, refl, sym, ap, ◌∙◌, unwrap_or, if◌then◌else◌}
use Rattle.std.specs.Prelude.{Result, Ok, Err, option_and_then, option_map}
use Rattle.std.specs.FinMap as map
use Rattle.sha2.specs.Sha256.{sha256}
use Rattle.zot_digest.specs.ByteMap.{ByteMap}
use Rattle.zot_manifests.proofs.TableLemmas.{get_plain, plain_insert, plain_remove}
use Rattle.zot_manifests.specs.Check.{check_needed, check_of, check_read}
use Rattle.zot_manifests.specs.Table.{Table, found_by, plain_manifest, plain_manifests, with_manifest as table_with, without_manifest as table_without}
use Rattle.zot_manifests.specs.declared.check_error.CheckError.{CheckError}
use Rattle.zot_manifests.specs.declared.check_error.CheckError.TheVariants as checks
use Rattle.zot_manifests.specs.declared.checked.Checked.{Checked}
use Rattle.zot_manifests.specs.declared.kept.Kept.{Kept}
use Rattle.zot_media.specs.Manifest.{empty_reading, reading}
use Rattle.zot_media.specs.References.{needed}
use Rattle.zot_media.specs.Referrers.{referrers_text}
use Rattle.zot_media.specs.declared.media.Media.{Media}
use Rattle.zot_media.specs.declared.reading.Reading.{Reading}
use Rattle.zot_media.specs.declared.reference.Reference.{Reference}
use Rattle.zot_media.specs.declared.reference.Reference.TheVariants as by
use Rattle.zot_model.specs.Manifests.{Found, digest_named_by, first_missing, is_needed, manifest_at, manifest_of}
use Rattle.zot_model.specs.Outcomes.{Outcome, stays, with_blob}
use Rattle.zot_model.specs.Pages.{page}
use Rattle.zot_model.specs.Plain.{plain}
use Rattle.zot_model.specs.PlainBlobs.{delete_found, without_blob}
use Rattle.zot_model.specs.PlainManifests.{get_found, head_found, is_other, plain_put, pulled, put_checked, put_read, without_tag}
use Rattle.zot_model.specs.PlainReferrers.{plain_referrers, pushed_in}
use Rattle.zot_model.specs.Refusals.{not_allowed, refusal}
use Rattle.zot_model.specs.State.{RepoState, Stored, StoredManifest}
use Rattle.zot_model.specs.Uploads.{UploadTable}
use Rattle.zot_model.specs.declared.call.Call.TheVariants as calls
use Rattle.zot_model.specs.declared.code.Code.TheVariants.{BlobUnknown, DigestInvalid, ManifestUnknown, NameUnknown}
use Rattle.zot_model.specs.declared.methods.Methods.TheVariants as methods
use Rattle.zot_model.specs.declared.reply.Reply.{Reply}
use Rattle.zot_model.specs.declared.reply.Reply.TheVariants.{Deleted, Manifest, ManifestHead, Referrers, Tags}
use Rattle.zot_table.proofs.ReplyLemmas.{is_plain, lacks}
use Rattle.zot_table.specs.Refusals.{put_refusal}
use Rattle.zot_table.specs.Replies.{MayGive, made_reply, with_checked}
use Rattle.zot_table.specs.Repository.{IsOf, plain_of, size_of}

taken : {A : Type 0} (b : Bool) (x y : A) → b ≡ true → (if b then x else y) ≡ x
taken true x y h = refl
taken false x y h = cc h

not_taken : {A : Type 0} (b : Bool) (x y : A) → b ≡ false → (if b then x else y) ≡ y
not_taken true x y h = cc h
not_taken false x y h = refl

-- ---- what a reference finds

module _ (known : Bool) (blobs : ByteMap Stored) (table : Table) (sessions : UploadTable) where
  abbrev whole : RepoState
  whole = plain_of known blobs table sessions

  -- the manifest of a digest, by what the table and the blobs have there
  pub at_digest : (digest : List ℕ) (kept : Option Kept) (stored : Option Stored) → map.get table.manifests digest ≡ kept → map.get blobs digest ≡ stored
      → manifest_at whole digest ≡ option_and_then {U = Found} (λ (k : Kept). option_map (λ (s : Stored). record { digest = digest; media = k.media; bytes = s.bytes }) stored) kept
  at_digest digest kept stored is are =
      ap (option_and_then {U = Found} (λ (m : StoredManifest). option_map (λ (s : Stored). record { digest = digest; media = m.media; bytes = s.bytes }) (map.get blobs digest))) (get_plain table.manifests digest ∙ ap (option_map plain_manifest) is)
      ∙ by_kept kept where
        by_kept : (k : Option Kept) → option_and_then {U = Found} (λ (m : StoredManifest). option_map (λ (s : Stored). record { digest = digest; media = m.media; bytes = s.bytes }) (map.get blobs digest)) (option_map plain_manifest k)
            ≡ option_and_then {U = Found} (λ (k : Kept). option_map (λ (s : Stored). record { digest = digest; media = k.media; bytes = s.bytes }) stored) k
        by_kept None = refl
        by_kept (Some k) = ap (option_map (λ (s : Stored). record { digest = digest; media = k.media; bytes = s.bytes })) are

  none_mapped : (digest : List ℕ) (found : Option Kept) → option_map (λ (kept : Kept). digest) found ≡ None → found ≡ None
  none_mapped digest None h = refl
  none_mapped digest (Some kept) h = cc h

  some_mapped : (digest other : List ℕ) (found : Option Kept) → option_map (λ (kept : Kept). digest) found ≡ Some other → Some digest ≡ Some other
  some_mapped digest other None h = cc h
  some_mapped digest other (Some kept) h = h

  -- a reference that finds no digest
  pub unnamed : (reference : Reference) → found_by table reference ≡ None → manifest_of whole reference ≡ None
  unnamed (by.Tag tag) h = ap (option_and_then (manifest_at whole)) h
  unnamed (by.Digest digest) h = at_digest digest None (map.get blobs digest) (none_mapped digest (map.get table.manifests digest) h) refl

  named : (reference : Reference) (digest : List ℕ) → found_by table reference ≡ Some digest → digest_named_by whole reference ≡ Some digest
  named (by.Tag tag) digest h = h
  named (by.Digest other) digest h = some_mapped other digest (map.get table.manifests other) h

  -- and one that does
  pub named_at : (reference : Reference) (digest : List ℕ) (kept : Option Kept) (stored : Option Stored) → found_by table reference ≡ Some digest → map.get table.manifests digest ≡ kept → map.get blobs digest ≡ stored
      → manifest_of whole reference ≡ option_and_then {U = Found} (λ (k : Kept). option_map (λ (s : Stored). record { digest = digest; media = k.media; bytes = s.bytes }) stored) kept
  named_at reference digest kept stored h is are = ap (option_and_then (manifest_at whole)) (named reference digest h) ∙ at_digest digest kept stored is are

-- ---- GET and HEAD

pub get_unknown : (moment : ℕ) (repo : RepoState) (reference : Reference) (reply : Reply) → manifest_of repo reference ≡ None → reply ≡ refusal ManifestUnknown → MayGive moment repo (calls.GetManifest reference) reply repo
unfolding plain
get_unknown moment repo reference reply none is = is_plain moment repo repo (calls.GetManifest reference) reply _ (ap (get_found moment repo reference) none) is refl

pub get_known : (moment : ℕ) (repo new : RepoState) (reference : Reference) (reply : Reply) (found : Found) → manifest_of repo reference ≡ Some found → reply ≡ Manifest found.digest found.media found.bytes → new ≡ pulled moment repo reference
    → MayGive moment repo (calls.GetManifest reference) reply new
unfolding plain
get_known moment repo new reference reply found has is same = is_plain moment repo new (calls.GetManifest reference) reply _ (ap (get_found moment repo reference) has) is same

pub head_unknown : (moment : ℕ) (repo : RepoState) (reference : Reference) (reply : Reply) → manifest_of repo reference ≡ None → reply ≡ refusal ManifestUnknown → MayGive moment repo (calls.HeadManifest reference) reply repo
unfolding plain
head_unknown moment repo reference reply none is = is_plain moment repo repo (calls.HeadManifest reference) reply _ (ap (head_found repo) none) is refl

pub head_known : (moment : ℕ) (repo : RepoState) (reference : Reference) (reply : Reply) (found : Found) → manifest_of repo reference ≡ Some found → reply ≡ ManifestHead found.digest found.media (length found.bytes)
    → MayGive moment repo (calls.HeadManifest reference) reply repo
unfolding plain
head_known moment repo reference reply found has is = is_plain moment repo repo (calls.HeadManifest reference) reply _ (ap (head_found repo) has) is refl

-- ---- PUT

missing_same : (has other : List ℕ → Bool) (digests : List (List ℕ)) → ((digest : List ℕ) → has digest ≡ other digest) → first_missing has digests ≡ first_missing other digests
missing_same has other [] same = refl
missing_same has other (digest ∷ digests) same =
    ap (λ b. if b then first_missing has digests else Some digest) (same digest) ∙ ap (λ o. if other digest then o else Some digest) (missing_same has other digests same)

some_size : (o : Option Stored) → is_some o ≡ is_some (option_map (λ (s : Stored). length s.bytes) o)
some_size None = refl
some_size (Some s) = refl

-- memory ran out
abbrev pub IsShort : Result Checked CheckError → Type 0
IsShort result = result ≡ Err checks.NoMemory

-- what a checked manifest leads to
abbrev outcome_of : ℕ → RepoState → List ℕ → Result Checked CheckError → Outcome
outcome_of moment repo body (Err error) = stays repo (put_refusal error)
outcome_of moment repo body (Ok checked) = record { reply = made_reply checked; repo = with_checked moment (with_blob moment repo checked.digest body) checked }

module _ (moment : ℕ) (repo : RepoState) (reference : Reference) (media : Media) (body : List ℕ) (read : Reading) where
  needed_outcome : (missing : Option (List ℕ)) → put_checked moment repo reference (sha256 body) media body read missing ≡ outcome_of moment repo body (check_needed reference media body read missing)
  needed_outcome (Some missing) = refl
  needed_outcome None = refl

  other_outcome : (b : Bool) (missing : Option (List ℕ))
      → (if b then stays repo (refusal DigestInvalid) else put_checked moment repo reference (sha256 body) media body read missing)
      ≡ outcome_of moment repo body (if b then Err (checks.Digest (sha256 body)) else check_needed reference media body read missing)
  other_outcome true missing = refl
  other_outcome false missing = needed_outcome missing

read_outcome : (moment : ℕ) (repo : RepoState) (reference : Reference) (media : Media) (body : List ℕ) (read : Option Reading)
    → put_read moment repo reference media body read ≡ outcome_of moment repo body (check_read (size_of repo.blobs) reference media body read)
read_outcome moment repo reference media body None = refl
read_outcome moment repo reference media body (Some read) =
    ap (λ missing. if is_other reference (sha256 body) then stays repo (refusal DigestInvalid) else put_checked moment repo reference (sha256 body) media body read missing)
    (missing_same (map.contains_key repo.blobs) (λ digest. is_some (size_of repo.blobs digest)) (needed read) (λ digest. some_size (map.get repo.blobs digest)))
    ∙ other_outcome moment repo reference media body read (is_other reference (sha256 body)) (first_missing (λ digest. is_some (size_of repo.blobs digest)) (needed read))

put_outcome : (moment : ℕ) (repo : RepoState) (reference : Reference) (media : Option Media) (body : List ℕ) → plain_put moment repo reference media body ≡ outcome_of moment repo body (check_of (size_of repo.blobs) reference media body)
put_outcome moment repo reference None body = refl
put_outcome moment repo reference (Some media) body = read_outcome moment repo reference media body (reading media body)

-- a manifest that is refused
pub put_refused : (moment : ℕ) (repo : RepoState) (reference : Reference) (media : Option Media) (body : List ℕ) (error : CheckError) (reply : Reply)
    → (Err error ≡ check_of (size_of repo.blobs) reference media body) ⊎ IsShort (Err error) → reply ≡ put_refusal error → MayGive moment repo (calls.PutManifest reference media body) reply repo
unfolding plain
put_refused moment repo reference media body error reply (inl refused) is =
    is_plain moment repo repo (calls.PutManifest reference media body) reply (stays repo (put_refusal error)) (put_outcome moment repo reference media body ∙ ap (outcome_of moment repo body) (sym refused)) is refl
put_refused moment repo reference media body error reply (inr memory) is =
    lacks moment repo repo (calls.PutManifest reference media body) reply (is ∙ ap put_refusal (error_is memory)) refl where
      the_error : Result Checked CheckError → CheckError
      the_error (Ok checked) = checks.NoMemory
      the_error (Err e) = e

      error_is : IsShort (Err error) → error ≡ checks.NoMemory
      error_is h = ap the_error h

-- one that is stored
pub put_made : (moment : ℕ) (repo new : RepoState) (reference : Reference) (media : Option Media) (body : List ℕ) (checked : Checked) (reply : Reply)
    → (Ok checked ≡ check_of (size_of repo.blobs) reference media body) ⊎ IsShort (Ok checked) → reply ≡ made_reply checked → new ≡ with_checked moment (with_blob moment repo checked.digest body) checked
    → MayGive moment repo (calls.PutManifest reference media body) reply new
unfolding plain
put_made moment repo new reference media body checked reply (inl right) is same =
    is_plain moment repo new (calls.PutManifest reference media body) reply _ (put_outcome moment repo reference media body ∙ ap (outcome_of moment repo body) (sym right)) is same
put_made moment repo new reference media body checked reply (inr memory) is same = cc memory

-- a checked manifest is that of its bytes
needed_of : (reference : Reference) (media : Media) (body : List ℕ) (read : Reading) (missing : Option (List ℕ)) (checked : Checked) → reading media body ≡ Some read → Ok checked ≡ check_needed reference media body read missing → IsOf checked body
needed_of reference media body read (Some missing) checked is h = cc h
needed_of reference media body read None checked is h = record {
  digest = ap (λ (r : Result Checked CheckError). digest_in r) h;
  read = ap (λ (r : Result Checked CheckError). reading (media_in r) body) h ∙ is ∙ sym (ap (λ (r : Result Checked CheckError). Some (reading_in r)) h);
} where
  digest_in : Result Checked CheckError → List ℕ
  digest_in (Ok c) = c.digest
  digest_in (Err e) = []

  media_in : Result Checked CheckError → Media
  media_in (Ok c) = c.media
  media_in (Err e) = media

  reading_in : Result Checked CheckError → Reading
  reading_in (Ok c) = c.reading
  reading_in (Err e) = empty_reading

read_of : (sizes : List ℕ → Option ℕ) (reference : Reference) (media : Media) (body : List ℕ) (read : Option Reading) (checked : Checked) → reading media body ≡ read → Ok checked ≡ check_read sizes reference media body read → IsOf checked body
read_of sizes reference media body None checked is h = cc h
read_of sizes reference media body (Some read) checked is h = by_other (is_other reference (sha256 body)) h where
  by_other : (b : Bool) → Ok checked ≡ (if b then Err (checks.Digest (sha256 body)) else check_needed reference media body read (first_missing (λ digest. is_some (sizes digest)) (needed read))) → IsOf checked body
  by_other true k = cc k
  by_other false k = needed_of reference media body read (first_missing (λ digest. is_some (sizes digest)) (needed read)) checked is k

pub checked_of : (sizes : List ℕ → Option ℕ) (reference : Reference) (media : Option Media) (body : List ℕ) (checked : Checked)
    → (Ok checked ≡ check_of sizes reference media body) ⊎ IsShort (Ok checked) → IsOf checked body
checked_of sizes reference None body checked (inl h) = cc h
checked_of sizes reference (Some media) body checked (inl h) = read_of sizes reference media body (reading media body) checked refl h
checked_of sizes reference media body checked (inr memory) = cc memory

-- the table with a checked manifest stands for the repository with it
pub checked_is : (known : Bool) (blobs : ByteMap Stored) (table new : Table) (sessions : UploadTable) (moment : ℕ) (checked : Checked) → new ≡ table_with moment table checked.digest checked.tag checked.media checked.reading
    → plain_of known blobs new sessions ≡ with_checked moment (plain_of known blobs table sessions) checked
checked_is known blobs table new sessions moment checked is =
    ap (λ (t : Table). plain_of known blobs t sessions) is
    ∙ ap (λ (m : ByteMap StoredManifest). record { known = known; blobs = blobs; manifests = m; tags = (table_with moment table checked.digest checked.tag checked.media checked.reading).tags; sessions = sessions })
    (plain_insert table.manifests checked.digest (record { media = checked.media; arrived = moment; reading = checked.reading }))

-- ---- DELETE

pub tag_unknown : (moment : ℕ) (repo new : RepoState) (tag : List ℕ) (reply : Reply) → map.contains_key repo.tags tag ≡ false → reply ≡ refusal ManifestUnknown → new ≡ repo → MayGive moment repo (calls.DeleteManifest (by.Tag tag)) reply new
unfolding plain
tag_unknown moment repo new tag reply none is same = is_plain moment repo new (calls.DeleteManifest (by.Tag tag)) reply _ (not_taken (map.contains_key repo.tags tag) _ _ none) is same

pub tag_deleted : (moment : ℕ) (repo new : RepoState) (tag : List ℕ) (reply : Reply) → map.contains_key repo.tags tag ≡ true → reply ≡ Deleted → new ≡ without_tag repo tag → MayGive moment repo (calls.DeleteManifest (by.Tag tag)) reply new
unfolding plain
tag_deleted moment repo new tag reply has is same = is_plain moment repo new (calls.DeleteManifest (by.Tag tag)) reply _ (taken (map.contains_key repo.tags tag) _ _ has) is same

contains_same : (table : Table) (digest : List ℕ) (b : Bool) → map.contains_key table.manifests digest ≡ b → map.contains_key (plain_manifests table.manifests) digest ≡ b
contains_same table digest b h = ap is_some (get_plain table.manifests digest) ∙ mapped (map.get table.manifests digest) ∙ h where
  mapped : (o : Option Kept) → is_some (option_map plain_manifest o) ≡ is_some o
  mapped None = refl
  mapped (Some kept) = refl

module _ (known : Bool) (blobs : ByteMap Stored) (table new : Table) (sessions : UploadTable) (moment : ℕ) (digest : List ℕ) (reply : Reply) where
  pub manifest_unknown : map.contains_key table.manifests digest ≡ false → reply ≡ refusal ManifestUnknown → new ≡ table
      → MayGive moment (plain_of known blobs table sessions) (calls.DeleteManifest (by.Digest digest)) reply (plain_of known blobs new sessions)
  unfolding plain
  manifest_unknown none is same =
      is_plain moment (plain_of known blobs table sessions) (plain_of known blobs new sessions) (calls.DeleteManifest (by.Digest digest)) reply _
      (not_taken (map.contains_key (plain_manifests table.manifests) digest) _ _ (contains_same table digest false none)) is (ap (λ (t : Table). plain_of known blobs t sessions) same)

  pub manifest_deleted : map.contains_key table.manifests digest ≡ true → reply ≡ Deleted → new ≡ table_without table digest
      → MayGive moment (plain_of known blobs table sessions) (calls.DeleteManifest (by.Digest digest)) reply (plain_of known blobs new sessions)
  unfolding plain
  manifest_deleted has is same =
      is_plain moment (plain_of known blobs table sessions) (plain_of known blobs new sessions) (calls.DeleteManifest (by.Digest digest)) reply _
      (taken (map.contains_key (plain_manifests table.manifests) digest) _ _ (contains_same table digest true has)) is
      (ap (λ (t : Table). plain_of known blobs t sessions) same
      ∙ ap (λ (m : ByteMap StoredManifest). record { known = known; blobs = blobs; manifests = m; tags = (table_without table digest).tags; sessions = sessions }) (plain_remove table.manifests digest))

pub blob_unknown : (moment : ℕ) (repo : RepoState) (digest : List ℕ) (reply : Reply) → map.get repo.blobs digest ≡ None → reply ≡ refusal BlobUnknown → MayGive moment repo (calls.DeleteBlob digest) reply repo
unfolding plain
blob_unknown moment repo digest reply none is = is_plain moment repo repo (calls.DeleteBlob digest) reply _ (ap (delete_found repo digest) none) is refl

delete_there : (repo : RepoState) (digest : List ℕ) (found : Option Stored) → is_some found ≡ true
    → delete_found repo digest found ≡ (if is_needed repo digest then stays repo (not_allowed methods.Read) else record { reply = Deleted; repo = without_blob repo digest })
delete_there repo digest None h = cc h
delete_there repo digest (Some stored) h = refl

pub blob_needed : (moment : ℕ) (repo : RepoState) (digest : List ℕ) (reply : Reply) → is_some (map.get repo.blobs digest) ≡ true → is_needed repo digest ≡ true → reply ≡ not_allowed methods.Read → MayGive moment repo (calls.DeleteBlob digest) reply repo
unfolding plain
blob_needed moment repo digest reply has needs is =
    is_plain moment repo repo (calls.DeleteBlob digest) reply _ (delete_there repo digest (map.get repo.blobs digest) has ∙ taken (is_needed repo digest) _ _ needs) is refl

pub blob_deleted : (moment : ℕ) (repo new : RepoState) (digest : List ℕ) (reply : Reply) → is_some (map.get repo.blobs digest) ≡ true → is_needed repo digest ≡ false → reply ≡ Deleted → new ≡ without_blob repo digest
    → MayGive moment repo (calls.DeleteBlob digest) reply new
unfolding plain
blob_deleted moment repo new digest reply has needs is same =
    is_plain moment repo new (calls.DeleteBlob digest) reply _ (delete_there repo digest (map.get repo.blobs digest) has ∙ not_taken (is_needed repo digest) _ _ needs) is same

-- ---- the list of tags

pub list_unknown : (moment : ℕ) (repo : RepoState) (n : Option ℕ) (last : Option (List ℕ)) (reply : Reply) → repo.known ≡ false → reply ≡ refusal NameUnknown → MayGive moment repo (calls.Tags n last) reply repo
unfolding plain
list_unknown moment repo n last reply none is = is_plain moment repo repo (calls.Tags n last) reply _ (not_taken repo.known _ _ none) is refl

pub list_known : (moment : ℕ) (repo : RepoState) (n : Option ℕ) (last : Option (List ℕ)) (reply : Reply) → repo.known ≡ true → reply ≡ Tags (page repo.tags n last).tags (page repo.tags n last).next (unwrap_or n 0) → MayGive moment repo (calls.Tags n last) reply repo
unfolding plain
list_known moment repo n last reply has is = is_plain moment repo repo (calls.Tags n last) reply _ (taken repo.known _ _ has) is refl

-- ---- the list of referrers

-- the list of referrers is given
pub referrers_given : (moment : ℕ) (repo : RepoState) (digest : List ℕ) (filter : Option (List ℕ)) (reply : Reply) → reply ≡ Referrers (referrers_text (pushed_in repo) digest filter) (is_some filter)
    → MayGive moment repo (calls.Referrers digest filter) reply repo
unfolding plain
referrers_given moment repo digest filter reply is = is_plain moment repo repo (calls.Referrers digest filter) reply (plain_referrers repo digest filter) refl is refl

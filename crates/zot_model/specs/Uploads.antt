-- The upload sessions of one repository, and what becomes of them (OCI Distribution Specification, "Pushing a blob in chunks").
use Rattle.std.specs.Prelude.{◌≡◌, ℕ, ◌+◌, ◌≤◌, nat_le, Bool, ◌||◌, List, [], ◌++◌, Option, Some, None, IsSome, if◌then◌else◌, refl}
use Rattle.std.specs.Coded.{Coded, code_by, coded×, coded_list, coded_ℕ}
use Rattle.std.specs.FinMap as map
use Rattle.std.specs.Ordering.{nat_cmp}
use Rattle.zot_model.specs.Ages.{is_aged}
use Rattle.zot_model.specs.declared.limits.TheConstants.{LAST_ID, OPEN_LIMIT}

-- a finite map from numbers, in their order
abbrev pub NumberMap : Type 0 → Type 0
NumberMap X = map.FinMap nat_cmp X

-- the finite map that a tree's entries stand for
abbrev pub numbered : {X : Type 0} → List (ℕ × X) → NumberMap X
numbered es = map.from_entries es

-- an open upload: its bytes so far, and the moment at which it began, in seconds
pub record OpenUpload : Type 0 where
  pub bytes : List ℕ
  pub start : ℕ

-- the open uploads by the numbers of their ids, and how many were opened since the repository's table was made
pub record UploadTable : Type 0 where
  pub uploads : NumberMap OpenUpload
  pub opened : ℕ

-- the most uploads that a repository has open
unfoldable pub open_limit : ℕ
open_limit = OPEN_LIMIT

-- the last id
unfoldable pub last_id : ℕ
last_id = LAST_ID

-- whether no upload more may be opened: as many are open as may be, or the last id was given
abbrev pub is_full : UploadTable → Bool
is_full table = nat_le open_limit (map.len table.uploads) || nat_le last_id table.opened

-- each id of an open upload was given: it is at most the number of uploads opened
abbrev pub WereGiven : NumberMap OpenUpload → ℕ → Type 0
WereGiven uploads opened = (id : ℕ) → IsSome (map.get uploads id) → id ≤ opened

-- the table in which nothing was opened yet
abbrev pub no_uploads : UploadTable
no_uploads = record { uploads = map.empty; opened = 0 }

-- the table with a new upload, which has no bytes and begins at the moment; its id is the number of uploads opened, this one counted
abbrev pub with_new : ℕ → UploadTable → UploadTable
with_new moment table = record {
  uploads = map.insert table.uploads (table.opened + 1) (record { bytes = []; start = moment });
  opened = table.opened + 1;
}

-- the bytes of an upload, and none of one that isn't open
abbrev pub bytes_of : Option OpenUpload → List ℕ
bytes_of None = []
bytes_of (Some upload) = upload.bytes

-- an upload with a piece after its bytes
abbrev pub longer : OpenUpload → List ℕ → OpenUpload
longer upload piece = record { bytes = upload.bytes ++ piece; start = upload.start }

-- the uploads in which the one found under the id has a piece after its bytes
abbrev pub put_after : NumberMap OpenUpload → ℕ → List ℕ → Option OpenUpload → NumberMap OpenUpload
put_after uploads id piece None = uploads
put_after uploads id piece (Some upload) = map.insert uploads id (longer upload piece)

-- the table in which an open upload has a piece after its bytes
abbrev pub with_piece : UploadTable → ℕ → List ℕ → UploadTable
with_piece table id piece = record { uploads = put_after table.uploads id piece (map.get table.uploads id); opened = table.opened }

-- the table in which an upload isn't open any more
abbrev pub without : UploadTable → ℕ → UploadTable
without table id = record { uploads = map.remove table.uploads id; opened = table.opened }

-- an upload that is younger than the delay at the moment
abbrev pub if_young : ℕ → ℕ → Option OpenUpload → Option OpenUpload
if_young moment delay None = None
if_young moment delay (Some upload) = if is_aged moment delay upload.start then None else Some upload

-- the uploads that are younger than the delay stay as they were, and the others are gone; what was opened stays opened
pub record Expires (moment delay : ℕ) (old new : UploadTable) : Type 0 where
  pub young : (id : ℕ) → map.get new.uploads id ≡ if_young moment delay (map.get old.uploads id)
  pub opened : new.opened ≡ old.opened

-- an upload is coded as its bytes and its moment
abbrev pub upload_code : Coded OpenUpload
upload_code = code_by (List ℕ × ℕ) (coded× (coded_list coded_ℕ) coded_ℕ) (λ u. (u.bytes, u.start)) (λ p. record { bytes = p.0; start = p.1 }) (λ _. refl)

-- uploads by their ids are coded by these
abbrev pub uploads_code : Coded (NumberMap OpenUpload)
uploads_code = map.code coded_ℕ upload_code

-- a table is coded as its two parts
abbrev pub table_code : Coded UploadTable
table_code = code_by (NumberMap OpenUpload × ℕ) (coded× uploads_code coded_ℕ) (λ t. (t.uploads, t.opened)) (λ p. record { uploads = p.0; opened = p.1 }) (λ _. refl)

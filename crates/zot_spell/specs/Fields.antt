-- The status lines of replies and their fields (RFC 9112, sections 4 and 5), on lists of bytes.
use Rattle.std.specs.Prelude.{ℕ, ◌==◌, ◌-◌, Bool, if◌then◌else◌, List, [], ◌∷◌, ◌++◌, Option, Some, None, unwrap_or, codes}
use Rattle.std.specs.Fmt.{decimal}
use Rattle.http.specs.StatusCode.{code_digits, reason_phrase}
use Rattle.zot_digest.specs.Digest.{digest_text}
use Rattle.zot_model.specs.declared.methods.Methods.{Methods}
use Rattle.zot_model.specs.declared.methods.Methods.TheVariants as methods
use Rattle.zot_names.specs.Upload.{upload_text}
use Rattle.zot_spell.specs.declared.field.Field.{Field}
use Rattle.zot_spell.specs.declared.field_name.FieldName.TheVariants as names
use Rattle.zot_spell.specs.Heads.{field_of, length_field_of}

-- CR LF
abbrev pub crlf : List ℕ
crlf = 13 ∷ 10 ∷ []

-- the reason of a status (RFC 9110, section 15)
unfoldable pub reason : ℕ → List ℕ
reason status = unwrap_or (reason_phrase status) []

-- the three digits of a status
unfoldable pub status_digits : ℕ → List ℕ
status_digits status = code_digits status

-- a status line: the version, the status and its reason
unfoldable pub status_line : ℕ → List ℕ
status_line status = codes "HTTP/1.1 " ++ status_digits status ++ codes " " ++ reason status ++ crlf

-- ---- places (OCI Distribution Specification 1.1, "Endpoints")

-- the place of a blob
unfoldable pub blob_place : List ℕ → List ℕ → List ℕ
blob_place name digest = codes "/v2/" ++ name ++ codes "/blobs/" ++ digest_text digest

-- the place of a manifest by its digest
unfoldable pub manifest_place : List ℕ → List ℕ → List ℕ
manifest_place name digest = codes "/v2/" ++ name ++ codes "/manifests/" ++ digest_text digest

-- the place of an upload
unfoldable pub upload_place : List ℕ → ℕ → List ℕ
upload_place name id = codes "/v2/" ++ name ++ codes "/blobs/uploads/" ++ upload_text id

-- the place of the page after a tag
unfoldable pub page_place : List ℕ → ℕ → List ℕ → List ℕ
page_place name n tag = codes "/v2/" ++ name ++ codes "/tags/list?n=" ++ decimal n ++ codes "&last=" ++ tag

-- ---- fields

-- the field of the base route (OCI Distribution Specification 1.1, "Legacy Docker support HTTP headers")
unfoldable pub version_field : Field
version_field = field_of names.ApiVersion (codes "registry/2.0")

-- the field that names a place (RFC 9110, section 10.2.2)
abbrev pub location_field : List ℕ → Field
location_field place = field_of names.Location place

-- the field that names a digest
abbrev pub digest_field : List ℕ → Field
digest_field digest = field_of names.ContentDigest (digest_text digest)

-- the field that names a manifest's subject, where it has one (OCI Distribution Specification 1.1, "Pushing Manifests with Subject")
unfoldable pub subject_fields : Option (List ℕ) → List Field
subject_fields None = []
subject_fields (Some digest) = field_of names.Subject (digest_text digest) ∷ []

-- the place of an upload's last byte, counted from 0, and 0 for an upload without bytes
unfoldable pub range_text : ℕ → List ℕ
range_text size = codes "0-" ++ decimal (size - 1)

-- the fields of an upload: its place, how far it has come, its id (OCI Distribution Specification 1.1, "Pushing a blob in chunks")
unfoldable pub upload_fields : List ℕ → ℕ → ℕ → List Field
upload_fields name id size = location_field (upload_place name id) ∷ (field_of names.Range (range_text size) ∷ (field_of names.UploadId (upload_text id) ∷ []))

-- the link to the page after a tag (RFC 8288, section 3)
unfoldable pub link_text : List ℕ → ℕ → List ℕ → List ℕ
link_text name n tag = codes "<" ++ page_place name n tag ++ codes ">; rel=\"next\""

-- the field that names the next page, where there is one (OCI Distribution Specification 1.1, "Listing Tags")
unfoldable pub link_fields : List ℕ → ℕ → Option (List ℕ) → List Field
link_fields name n None = []
link_fields name n (Some tag) = field_of names.Link (link_text name n tag) ∷ []

-- the field that says which filter was applied (OCI Distribution Specification 1.1, "Listing Referrers")
unfoldable pub filter_fields : Bool → List Field
filter_fields filtered = if filtered then (field_of names.FiltersApplied (codes "artifactType") ∷ []) else []

-- the methods of a path
unfoldable pub methods_text : Methods → List ℕ
methods_text methods.Read = codes "GET, HEAD"
methods_text methods.List = codes "GET"
methods_text methods.Manifest = codes "GET, HEAD, PUT, DELETE"
methods_text methods.Begin = codes "POST"
methods_text methods.Upload = codes "GET, PATCH, PUT"
methods_text methods.Blob = codes "GET, HEAD, DELETE"

-- the field that names the methods of a path (RFC 9110, section 10.2.1)
unfoldable pub allow_field : Methods → Field
allow_field which = field_of names.Allow (methods_text which)

-- the size of a reply's body; a reply without content, 204, has no such field (RFC 9110, section 8.6)
unfoldable pub length_fields : ℕ → ℕ → List Field
length_fields status size = if status == 204 then [] else (length_field_of size ∷ [])

-- the field of a reply after which the connection closes (RFC 9112, section 9.6)
unfoldable pub closing_fields : Bool → List Field
closing_fields close = if close then (field_of names.Connection (codes "close") ∷ []) else []

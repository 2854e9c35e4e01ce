-- How a request is spelled on the wire (RFC 9112, section 3), from one member to another.
use Rattle.std.specs.Prelude.{ℕ, Bool, if◌then◌else◌, List, [], ◌∷◌, ◌++◌, length, Option, Some, None, map, option_map, unwrap_or, codes}
use Rattle.std.specs.Fmt.{decimal}
use Rattle.form_urlencoded.specs.Form.{extend_pairs}
use Rattle.zot_digest.specs.Digest.{digest_text}
use Rattle.zot_media.specs.declared.media.Media.{Media}
use Rattle.zot_media.specs.declared.reference.Reference.{Reference}
use Rattle.zot_media.specs.declared.reference.Reference.TheVariants as references
use Rattle.zot_media.specs.Media.{media_text}
use Rattle.zot_model.specs.declared.call.Call.{Call}
use Rattle.zot_model.specs.declared.call.Call.TheVariants as calls
use Rattle.zot_model.specs.declared.mount.Mount.{Mount}
use Rattle.zot_model.specs.declared.request.Request.{Request}
use Rattle.zot_model.specs.declared.span.Span.{Span}
use Rattle.zot_names.specs.Upload.{upload_text}
use Rattle.zot_spell.specs.declared.field.Field.{Field}
use Rattle.zot_spell.specs.declared.field_name.FieldName.{FieldName}
use Rattle.zot_spell.specs.declared.field_name.FieldName.TheVariants as names
use Rattle.zot_spell.specs.Heads.{field_of, fields_text}

-- ---- names with values

-- those of the names that have a value, with it
abbrev pub present : {Name : Type 0} → List (Name × Option (List ℕ)) → List (Name × List ℕ)
present [] = []
present ((name, None) ∷ pairs) = present pairs
present ((name, Some value) ∷ pairs) = (name, value) ∷ present pairs

-- the fields that have a value
abbrev pub fields_given : List (FieldName × Option (List ℕ)) → List Field
fields_given fields = map (λ field. field_of field.0 field.1) (present fields)

-- a query after its `?`, where there is one
unfoldable pub query_text : List ℕ → List ℕ
query_text [] = []
query_text (b ∷ form) = codes "?" ++ b ∷ form

-- ---- the texts of a call's values

-- the text that stands for nothing: an id that isn't one, media that aren't accepted
abbrev pub dash : List ℕ
dash = codes "-"

-- the text of an id
unfoldable pub id_text : Option ℕ → List ℕ
id_text None = dash
id_text (Some id) = upload_text id

-- the text of a reference
unfoldable pub reference_text : Reference → List ℕ
reference_text (references.Tag tag) = tag
reference_text (references.Digest digest) = digest_text digest

-- the text of the media of a pushed manifest
unfoldable pub media_value : Option Media → List ℕ
media_value None = dash
media_value (Some media) = media_text media

-- the text of a range, its first and its last place (OCI Distribution Specification 1.1, "Pushing a blob in chunks")
abbrev pub span_text : Span → List ℕ
span_text span = decimal span.start ++ codes "-" ++ decimal span.end

-- the repository that may have a blob to be taken over
abbrev pub mount_from : Option Mount → Option (List ℕ)
mount_from None = None
mount_from (Some mount) = mount.from

-- ---- calls (OCI Distribution Specification 1.1, "Endpoints")

-- What a call has on the wire: its method (RFC 9110, section 9.3), what stands in the path after the name, the keys of
-- its query, the media and the range that its fields name, and its body, where the method has one.
pub record CallParts : Type 0 where
  pub method : List ℕ
  pub path : List ℕ
  pub query : List (List ℕ × Option (List ℕ))
  pub media : Option (List ℕ)
  pub range : Option Span
  pub body : Option (List ℕ)

-- a call that has a path alone
abbrev pub plain_parts : List ℕ → List ℕ → CallParts
plain_parts method path = record { method = method; path = path; query = []; media = None; range = None; body = None }

-- the parts of each call; the keys of a query come in the order mount, from, digest, n, last, artifactType
unfoldable pub parts_of : Call → CallParts
parts_of calls.Base = plain_parts (codes "GET") []
parts_of (calls.GetBlob digest) = plain_parts (codes "GET") (codes "/blobs/" ++ digest_text digest)
parts_of (calls.HeadBlob digest) = plain_parts (codes "HEAD") (codes "/blobs/" ++ digest_text digest)
parts_of (calls.DeleteBlob digest) = plain_parts (codes "DELETE") (codes "/blobs/" ++ digest_text digest)
parts_of (calls.Post mount digest body) = record (plain_parts (codes "POST") (codes "/blobs/uploads/")) {
  query = (codes "mount", option_map (λ m. digest_text m.digest) mount) ∷ (codes "from", mount_from mount)
      ∷ (codes "digest", option_map digest_text digest) ∷ [];
  body = Some body;
}
parts_of (calls.Patch id range body) = record (plain_parts (codes "PATCH") (codes "/blobs/uploads/" ++ id_text id)) {
  range = range;
  body = Some body;
}
parts_of (calls.Finish id range digest body) = record (plain_parts (codes "PUT") (codes "/blobs/uploads/" ++ id_text id)) {
  query = (codes "digest", Some (digest_text digest)) ∷ [];
  range = range;
  body = Some body;
}
parts_of (calls.UploadState id) = plain_parts (codes "GET") (codes "/blobs/uploads/" ++ id_text id)
parts_of (calls.PutManifest reference media body) = record (plain_parts (codes "PUT") (codes "/manifests/" ++ reference_text reference)) {
  media = Some (media_value media);
  body = Some body;
}
parts_of (calls.GetManifest reference) = plain_parts (codes "GET") (codes "/manifests/" ++ reference_text reference)
parts_of (calls.HeadManifest reference) = plain_parts (codes "HEAD") (codes "/manifests/" ++ reference_text reference)
parts_of (calls.DeleteManifest reference) = plain_parts (codes "DELETE") (codes "/manifests/" ++ reference_text reference)
parts_of (calls.Tags n last) = record (plain_parts (codes "GET") (codes "/tags/list")) {
  query = (codes "n", option_map decimal n) ∷ (codes "last", last) ∷ [];
}
parts_of (calls.Referrers digest filter) = record (plain_parts (codes "GET") (codes "/referrers/" ++ digest_text digest)) {
  query = (codes "artifactType", filter) ∷ [];
}

-- ---- requests

-- the query of a call, as `form_urlencoded` writes it (URL Standard, section 5)
abbrev pub form_of : CallParts → List ℕ
form_of parts = extend_pairs [] (present parts.query)

-- the path of a request's target
abbrev pub path_of : Request → List ℕ
path_of request = codes "/v2/" ++ unwrap_or request.name [] ++ (parts_of request.call).path

-- the target of a request
unfoldable pub target_text : Request → List ℕ
target_text request = path_of request ++ query_text (form_of (parts_of request.call))

-- the first line: the method, the target and the version
unfoldable pub request_line : Request → List ℕ
request_line request = (parts_of request.call).method ++ codes " " ++ target_text request ++ codes " HTTP/1.1" ++ 13 ∷ 10 ∷ []

-- the value of the field of a request that was handed on
abbrev pub hop_value : Bool → Option (List ℕ)
hop_value hop = if hop then Some (codes "1") else None

-- The fields of a request before a body of that size, where the method has one. Each member answers to the host's name,
-- and the field of a request that was handed on is this project's own.
abbrev pub fields_of : Request → ℕ → List (FieldName × Option (List ℕ))
fields_of request size =
    let parts = parts_of request.call in
    (names.Host, Some (codes "member")) ∷ (names.ContentType, parts.media) ∷ (names.ContentRange, option_map span_text parts.range)
    ∷ (names.HopCount, hop_value request.hop) ∷ (names.ContentLength, option_map (λ body. decimal size) parts.body) ∷ []

-- the head of a request before a body of that size: the first line, the fields and an empty line
unfoldable pub request_head : Request → ℕ → List ℕ
request_head request size = request_line request ++ fields_text (fields_given (fields_of request size))

-- the body of a request, or no bytes where its method has none
unfoldable pub body_of : Request → List ℕ
body_of request = unwrap_or (parts_of request.call).body []

-- the head of a request with its own body
abbrev pub head_of : Request → List ℕ
head_of request = request_head request (length (body_of request))

-- the bytes of a request: its head and its body
unfoldable pub request_bytes : Request → List ℕ
request_bytes request = head_of request ++ body_of request

-- the same request, handed on or not
abbrev pub with_hop : Request → Bool → Request
with_hop request hop = record request { hop = hop }

-- the same call with another body, where its method has one
abbrev pub call_with_body : Call → List ℕ → Call
call_with_body (calls.Post mount digest body) other = calls.Post mount digest other
call_with_body (calls.Patch id range body) other = calls.Patch id range other
call_with_body (calls.Finish id range digest body) other = calls.Finish id range digest other
call_with_body (calls.PutManifest reference media body) other = calls.PutManifest reference media other
call_with_body call other = call

-- the same request with another body, where its method has one
abbrev pub with_body : Request → List ℕ → Request
with_body request body = record request { call = call_with_body request.call body }

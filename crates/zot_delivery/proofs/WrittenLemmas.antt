-- A valid request has the bytes that its head needs.
use Rattle.std.proofs.Common.{◌≡◌, ℕ, ◌<◌, ◌≤◌, Bool, true, false, Some, None, Option, IfSome, IsUtf8, List, [], ◌++◌, All, codes, decimal, length, option_map, refl, arith, unwrap_or}
use Rattle.std.specs.List.{AllByRecursion, list_all}
use Rattle.std.proofs.lemmas.List.Elements.{All-append, All-nil}
use Rattle.std.proofs.lemmas.List.Sums.{AllPass-from_list_all}
use Rattle.httparse.specs.Grammar.{IsToken, is_token_byte}
use Rattle.zot_digest.specs.Digest.{IsDigest, digest_text}
use Rattle.zot_media.specs.declared.media.Media.{Media}
use Rattle.zot_media.specs.declared.media.Media.TheVariants.{DockerImage, DockerList, Image, Index}
use Rattle.zot_media.specs.declared.reference.Reference.{Reference}
use Rattle.zot_media.specs.declared.reference.Reference.TheVariants as references
use Rattle.zot_media.specs.Media.{media_text}
use Rattle.zot_model.specs.declared.call.Call.{Call}
use Rattle.zot_model.specs.declared.call.Call.TheVariants as calls
use Rattle.zot_model.specs.declared.mount.Mount.{Mount}
use Rattle.zot_model.specs.declared.request.Request.{Request}
use Rattle.zot_model.specs.declared.span.Span.{Span}
use Rattle.zot_model.specs.Valid.{IsShort, IsSpan, IsValid, IsValidCall, body_limit, manifest_limit}
use Rattle.zot_names.specs.Name.{IsName}
use Rattle.zot_spell.specs.declared.field_name.FieldName.{FieldName}
use Rattle.zot_spell.specs.Heads.{name_text}
use Rattle.zot_spell.specs.Wire.{CallParts, body_of, dash, fields_of, form_of, hop_value, id_text, media_value, mount_from, parts_of, path_of, present, query_text, reference_text, span_text, target_text}
use Rattle.zot_model.specs.Values.{HasCallValues, HasValues, IsMount, IsRef}
use Rattle.zot_delivery.proofs.ByteLemmas.{IsPartByte, IsPathByte, IsVisible, decimal_part, digest_part, is_part_byte, is_path_byte, literal_part, literal_path, name_path, part_path, part_text, path_is_text, path_visible, tag_part, upload_part}
use Rattle.zot_delivery.proofs.FieldLemmas.{IsWritten, literal_visible, size_value}
use Rattle.zot_delivery.proofs.QueryLemmas.{IsTextPair, form_visible, query_visible}

-- ---- texts

pub id_part : (id : Option ℕ) → All IsPartByte (id_text id)
unfolding id_text
id_part None = literal_part dash refl
id_part (Some id) = upload_part id

pub reference_part : (reference : Reference) → IsRef reference → All IsPartByte (reference_text reference)
unfolding reference_text
reference_part (references.Tag tag) is = tag_part tag is
reference_part (references.Digest digest) is = digest_part digest is

part_seen : (text : List ℕ) → All IsPartByte text → All IsVisible text
part_seen text all = path_visible text (part_path text all)

media_seen : (media : Option Media) → All IsVisible (media_value media)
unfolding media_value media_text
media_seen None = literal_visible dash refl
media_seen (Some Image) = literal_visible (media_text Image) refl
media_seen (Some Index) = literal_visible (media_text Index) refl
media_seen (Some DockerImage) = literal_visible (media_text DockerImage) refl
media_seen (Some DockerList) = literal_visible (media_text DockerList) refl

-- the start of a range has as few digits as its end
pub start_short : (span : Span) → IsSpan span → IsShort span.start
start_short span is = let a = is.end in let b = is.ordered in omega arith

range_seen : (range : Option Span) → IfSome range IsSpan → IfSome (option_map span_text range) (λ text. All IsVisible text)
range_seen None h = tt
range_seen (Some span) h =
    All-append IsVisible (decimal span.start ++ codes "-") (decimal span.end)
    (All-append IsVisible (decimal span.start) (codes "-") (part_seen (decimal span.start) (decimal_part span.start (start_short span h))) (literal_visible (codes "-") refl))
    (part_seen (decimal span.end) (decimal_part span.end h.end))

hop_seen : (hop : Bool) → IfSome (hop_value hop) (λ text. All IsVisible text)
hop_seen true = literal_visible (codes "1") refl
hop_seen false = tt

-- ---- queries

digest_is_text : (digest : List ℕ) → IsDigest digest → IsUtf8 (digest_text digest)
digest_is_text digest is = part_text (digest_text digest) (digest_part digest is)

some_digest_text : (digest : Option (List ℕ)) → IfSome digest IsDigest → IfSome (option_map digest_text digest) IsUtf8
some_digest_text None h = tt
some_digest_text (Some digest) h = digest_is_text digest h

name_is_text : (name : Option (List ℕ)) → IfSome name IsName → IfSome name IsUtf8
name_is_text None h = tt
name_is_text (Some name) h = path_is_text name (name_path name h)

mount_text : (mount : Option Mount) → IfSome mount IsMount → IfSome (option_map (λ m. digest_text m.digest) mount) IsUtf8
mount_text None h = tt
mount_text (Some mount) h = digest_is_text mount.digest h.digest

from_text : (mount : Option Mount) → IfSome mount IsMount → IfSome (mount_from mount) IsUtf8
from_text None h = tt
from_text (Some mount) h = name_is_text mount.from h.from

number_text : (n : Option ℕ) → IfSome n IsShort → IfSome (option_map decimal n) IsUtf8
number_text None h = tt
number_text (Some n) h = part_text (decimal n) (decimal_part n h)

key_text : (key : List ℕ) → list_all is_part_byte key ≡ true → IsUtf8 key
key_text key e = part_text key (literal_part key e)

-- ---- calls

-- what is asked of a call's parts, so that its request's bytes begin with its head and its body keeps its limit
pub record AreWritten (parts : CallParts) : Type 0 where
  pub method : IsToken parts.method
  pub path : All IsPathByte parts.path
  pub query : AllByRecursion IsTextPair parts.query
  pub media : IfSome parts.media (λ text. All IsVisible text)
  pub range : IfSome parts.range IsSpan
  pub body : IfSome parts.body (λ body. length body ≤ body_limit)

-- a literal that is a token
token : (text : List ℕ) → 0 < length text → list_all is_token_byte text ≡ true → IsToken text
token text some e = (some, AllPass-from_list_all is_token_byte text e)

-- a part of a path, and a text after it
ending : (front text : List ℕ) → list_all is_path_byte front ≡ true → All IsPartByte text → All IsPathByte (front ++ text)
ending front text e all = All-append IsPathByte front text (literal_path front e) (part_path text all)

manifest_fits : (n : ℕ) → n ≤ manifest_limit → n ≤ body_limit
unfolding manifest_limit body_limit
manifest_fits n h = omega arith

blob : (digest : List ℕ) → IsDigest digest → All IsPathByte (codes "/blobs/" ++ digest_text digest)
blob digest is = ending (codes "/blobs/") (digest_text digest) refl (digest_part digest is)

upload : (id : Option ℕ) → All IsPathByte (codes "/blobs/uploads/" ++ id_text id)
upload id = ending (codes "/blobs/uploads/") (id_text id) refl (id_part id)

manifest : (reference : Reference) → IsRef reference → All IsPathByte (codes "/manifests/" ++ reference_text reference)
manifest reference is = ending (codes "/manifests/") (reference_text reference) refl (reference_part reference is)

parts_are : (parts : CallParts) → IsToken parts.method → All IsPathByte parts.path → AllByRecursion IsTextPair parts.query → IfSome parts.media (λ text. All IsVisible text)
    → IfSome parts.range IsSpan → IfSome parts.body (λ body. length body ≤ body_limit) → AreWritten parts
parts_are parts method path query media range body = record { method = method; path = path; query = query; media = media; range = range; body = body }

pub call_written : (call : Call) → HasCallValues call → IsValidCall call → AreWritten (parts_of call)
unfolding parts_of is_token_byte
call_written calls.Base h valid = parts_are (parts_of calls.Base) (token (codes "GET") (omega arith) refl) (All-nil IsPathByte) tt tt tt tt
call_written (calls.GetBlob digest) h valid = parts_are (parts_of (calls.GetBlob digest)) (token (codes "GET") (omega arith) refl) (blob digest h) tt tt tt tt
call_written (calls.HeadBlob digest) h valid = parts_are (parts_of (calls.HeadBlob digest)) (token (codes "HEAD") (omega arith) refl) (blob digest h) tt tt tt tt
call_written (calls.DeleteBlob digest) h valid = parts_are (parts_of (calls.DeleteBlob digest)) (token (codes "DELETE") (omega arith) refl) (blob digest h) tt tt tt tt
call_written (calls.Post mount digest body) h valid =
    parts_are (parts_of (calls.Post mount digest body)) (token (codes "POST") (omega arith) refl) (literal_path (codes "/blobs/uploads/") refl)
    ((key_text (codes "mount") refl, mount_text mount h.0), ((key_text (codes "from") refl, from_text mount h.0), ((key_text (codes "digest") refl, some_digest_text digest h.1), tt))) tt tt valid
call_written (calls.Patch id range body) h valid = parts_are (parts_of (calls.Patch id range body)) (token (codes "PATCH") (omega arith) refl) (upload id) tt tt valid.0 valid.1
call_written (calls.Finish id range digest body) h valid =
    parts_are (parts_of (calls.Finish id range digest body)) (token (codes "PUT") (omega arith) refl) (upload id) ((key_text (codes "digest") refl, digest_is_text digest h.1), tt) tt valid.0 valid.1
call_written (calls.UploadState id) h valid = parts_are (parts_of (calls.UploadState id)) (token (codes "GET") (omega arith) refl) (upload id) tt tt tt tt
call_written (calls.PutManifest reference media body) h valid =
    parts_are (parts_of (calls.PutManifest reference media body)) (token (codes "PUT") (omega arith) refl) (manifest reference h) tt (media_seen media) tt (manifest_fits (length body) valid)
call_written (calls.GetManifest reference) h valid = parts_are (parts_of (calls.GetManifest reference)) (token (codes "GET") (omega arith) refl) (manifest reference h) tt tt tt tt
call_written (calls.HeadManifest reference) h valid = parts_are (parts_of (calls.HeadManifest reference)) (token (codes "HEAD") (omega arith) refl) (manifest reference h) tt tt tt tt
call_written (calls.DeleteManifest reference) h valid = parts_are (parts_of (calls.DeleteManifest reference)) (token (codes "DELETE") (omega arith) refl) (manifest reference h) tt tt tt tt
call_written (calls.Tags n last) h valid =
    parts_are (parts_of (calls.Tags n last)) (token (codes "GET") (omega arith) refl) (literal_path (codes "/tags/list") refl)
    ((key_text (codes "n") refl, number_text n valid), ((key_text (codes "last") refl, h), tt)) tt tt tt
call_written (calls.Referrers digest filter) h valid =
    parts_are (parts_of (calls.Referrers digest filter)) (token (codes "GET") (omega arith) refl) (ending (codes "/referrers/") (digest_text digest) refl (digest_part digest h.0))
    ((key_text (codes "artifactType") refl, h.1), tt) tt tt tt

-- ---- requests

-- the fields of a request before its own body
abbrev pub fields_in : Request → List (FieldName × Option (List ℕ))
fields_in request = fields_of request (length (body_of request))

name_bytes : (name : Option (List ℕ)) → IfSome name IsName → All IsPathByte (unwrap_or name [])
name_bytes None h = All-nil IsPathByte
name_bytes (Some name) h = name_path name h

short : (n : ℕ) → n ≤ body_limit → IsShort n
unfolding body_limit
short n h = omega arith

size_short : (body : Option (List ℕ)) → IfSome body (λ b. length b ≤ body_limit) → IfSome body (λ b. IsShort (length b))
size_short None h = tt
size_short (Some body) h = short (length body) h

size_seen : (body : Option (List ℕ)) → IfSome body (λ b. IsShort (length b)) → IfSome (size_value body) (λ text. All IsVisible text)
size_seen None h = tt
size_seen (Some body) h = part_seen (decimal (length body)) (decimal_part (length body) h)

body_within : (body : Option (List ℕ)) → IfSome body (λ b. length b ≤ body_limit) → length (unwrap_or body []) ≤ body_limit
body_within None h = omega arith
body_within (Some body) h = h

module _ (request : Request) (values : HasValues request) (valid : IsValid request) where
  pub parts_written : AreWritten (parts_of request.call)
  parts_written = call_written request.call values.call valid.call

  pub path_bytes : All IsPathByte (path_of request)
  path_bytes =
      All-append IsPathByte (codes "/v2/" ++ unwrap_or request.name []) (parts_of request.call).path
      (All-append IsPathByte (codes "/v2/") (unwrap_or request.name []) (literal_path (codes "/v2/") refl) (name_bytes request.name values.name)) parts_written.path

  pub target_visible : All IsVisible (target_text request)
  unfolding target_text
  target_visible =
      All-append IsVisible (path_of request) (query_text (form_of (parts_of request.call))) (path_visible (path_of request) path_bytes)
      (query_visible (form_of (parts_of request.call)) (form_visible [] (present (parts_of request.call).query) (All-nil IsVisible)))

  pub body_short : IfSome (parts_of request.call).body (λ b. IsShort (length b))
  body_short = size_short (parts_of request.call).body parts_written.body

  pub body_fits : length (body_of request) ≤ body_limit
  unfolding body_of
  body_fits = body_within (parts_of request.call).body parts_written.body

  pub fields_written : AllByRecursion IsWritten (fields_in request)
  unfolding name_text is_token_byte body_of
  fields_written =
      let parts = parts_of request.call in (
        record { some = omega arith; token = refl; value = literal_visible (codes "member") refl },
        (
          record { some = omega arith; token = refl; value = parts_written.media },
          (
            record { some = omega arith; token = refl; value = range_seen parts.range parts_written.range },
            (
              record { some = omega arith; token = refl; value = hop_seen request.hop },
              (record { some = omega arith; token = refl; value = size_seen parts.body body_short }, tt),
            ),
          ),
        ),
      )

-- How a reply is spelled on the wire (RFC 9112, sections 4 to 6): the status line, the lines of the reply's own fields and those of its body, an empty line and the body.
use Rattle.std.specs.Prelude.{ℕ, ◌≡◌, Bool, if◌then◌else◌, List, [], ◌∷◌, ◌++◌, length, Option, Some, None, unwrap_or, codes}
use Rattle.http.specs.StatusCode.{IsStatusCode}
use Rattle.zot_media.specs.declared.media.Media.TheVariants.{Index}
use Rattle.zot_media.specs.Media.{media_text}
use Rattle.zot_model.specs.declared.detail.Detail.{Detail}
use Rattle.zot_model.specs.declared.detail.Detail.TheVariants as details
use Rattle.zot_model.specs.declared.reply.Reply.{Reply}
use Rattle.zot_model.specs.declared.reply.Reply.TheVariants as replies
use Rattle.zot_model.specs.declared.request.Request.{Request}
use Rattle.zot_model.specs.Fits.{Declines, Fits}
use Rattle.zot_spell.specs.Bodies.{error_body, page_body}
use Rattle.zot_spell.specs.declared.field.Field.{Field}
use Rattle.zot_spell.specs.Fields.{allow_field, blob_place, closing_fields, digest_field, filter_fields, length_fields, link_fields, location_field, manifest_place, status_line, subject_fields, upload_fields, version_field}
use Rattle.zot_spell.specs.Heads.{fields_text, type_fields}

-- what a reply says, whatever the method and the connection: its status, its own fields in their order, the media of its body where they are named, the size in bytes of the body that a GET has, and the body
pub record Parts : Type 0 where
  pub status : ℕ
  pub own : List Field
  pub media : Option (List ℕ)
  pub size : ℕ
  pub body : List ℕ

-- with a body of these media
abbrev pub with_body : ℕ → List Field → List ℕ → List ℕ → Parts
with_body status own media body = record { status = status; own = own; media = Some media; size = length body; body = body }

-- the size of a body alone
abbrev pub with_size : ℕ → List Field → List ℕ → ℕ → Parts
with_size status own media size = record { status = status; own = own; media = Some media; size = size; body = [] }

-- without a body
abbrev pub bodiless : ℕ → List Field → Parts
bodiless status own = record { status = status; own = own; media = None; size = 0; body = [] }

-- the media of bodies of bytes and of JSON
unfoldable pub byte_media : List ℕ
byte_media = codes "application/octet-stream"

unfoldable pub json_media : List ℕ
json_media = codes "application/json"

-- the body of the base route's reply, an empty object
unfoldable pub base_body : List ℕ
base_body = codes "{}"

-- the own fields of a refusal: the methods of a path, or how far an upload has come
unfoldable pub refusal_fields : List ℕ → Detail → List Field
refusal_fields name (details.Allow which) = allow_field which ∷ []
refusal_fields name (details.Session id size) = upload_fields name id size
refusal_fields name _ = []

-- what each reply says, to a request on the repository of this name
unfoldable pub parts_of : List ℕ → Reply → Parts
parts_of name replies.Base = with_body 200 (version_field ∷ []) json_media base_body
parts_of name (replies.Blob digest bytes) = with_body 200 (digest_field digest ∷ []) byte_media bytes
parts_of name (replies.BlobHead digest size) = with_size 200 (digest_field digest ∷ []) byte_media size
parts_of name (replies.BlobMade digest) = bodiless 201 (location_field (blob_place name digest) ∷ (digest_field digest ∷ []))
parts_of name (replies.Session id size status) = bodiless status (upload_fields name id size)
parts_of name (replies.ManifestMade digest subject) = bodiless 201 (location_field (manifest_place name digest) ∷ (digest_field digest ∷ subject_fields subject))
parts_of name (replies.Manifest digest media bytes) = with_body 200 (digest_field digest ∷ []) (media_text media) bytes
parts_of name (replies.ManifestHead digest media size) = with_size 200 (digest_field digest ∷ []) (media_text media) size
parts_of name (replies.Tags tags next n) = with_body 200 (link_fields name n next) json_media (page_body name tags)
parts_of name (replies.Referrers text filtered) = with_body 200 (filter_fields filtered) (media_text Index) text
parts_of name replies.Deleted = bodiless 202 []
parts_of name (replies.Refused status code detail) = with_body status (refusal_fields name detail) json_media (error_body code detail)

-- the body that is made of a reply which has none in it: JSON, or nothing
unfoldable pub made_body : List ℕ → Reply → List ℕ
made_body name replies.Base = base_body
made_body name (replies.Tags tags next n) = page_body name tags
made_body name (replies.Refused status code detail) = error_body code detail
made_body name _ = []

-- the bytes that a reply holds and that are its body: those of a blob, a manifest or an index
unfoldable pub held_body : Reply → List ℕ
held_body (replies.Blob digest bytes) = bytes
held_body (replies.Manifest digest media bytes) = bytes
held_body (replies.Referrers text filtered) = text
held_body _ = []

-- all fields of a reply that says this: its own, those of its body, and one where the connection closes
unfoldable pub all_fields : Parts → Bool → List Field
all_fields parts close = parts.own ++ (type_fields parts.media ++ (length_fields parts.status parts.size ++ closing_fields close))

-- the status line, the lines of fields, and the empty line after them
unfoldable pub head_text : ℕ → List Field → List ℕ
head_text status fields = status_line status ++ fields_text fields

-- the body, which a reply to the method HEAD leaves out (RFC 9110, section 9.3.2)
unfoldable pub shown_body : Bool → List ℕ → List ℕ
shown_body head body = if head then [] else body

-- the head of a reply that says this; `close` says that the connection closes
unfoldable pub head_of : Parts → Bool → List ℕ
head_of parts close = head_text parts.status (all_fields parts close)

-- the bytes of a reply that says this; `head` is the method HEAD, and `close` that the connection closes
unfoldable pub spelled : Parts → Bool → Bool → List ℕ
spelled parts head close = head_of parts close ++ shown_body head parts.body

-- the name of a request's repository, where there is one
abbrev pub name_in : Option Request → List ℕ
name_in None = []
name_in (Some request) = unwrap_or request.name []

-- the bytes of a reply to a request, or to a message that asks for nothing; `head` says that the method is HEAD, and `close` that the connection closes after the reply
unfoldable pub reply_bytes : Option Request → Reply → Bool → Bool → List ℕ
reply_bytes request reply head close = spelled (parts_of (name_in request) reply) head close

-- the head of a reply to a request, or to a message that asks for nothing
unfoldable pub reply_head : Option Request → Reply → Bool → List ℕ
reply_head request reply close = head_of (parts_of (name_in request) reply) close

-- the body of such a reply, which a GET shows
unfoldable pub reply_body : Option Request → Reply → List ℕ
reply_body request reply = (parts_of (name_in request) reply).body

-- the bytes are the reply, after which the connection closes or goes on
abbrev pub IsReply : Option Request → Reply → Bool → List ℕ → Type 0
IsReply request reply head bytes = (close : Bool) × (bytes ≡ reply_bytes request reply head close)

-- a request, or a message that asks for nothing, may be answered so
abbrev pub MayHave : Option Request → Reply → Type 0
MayHave None reply = Declines reply
MayHave (Some request) reply = Fits request reply

-- the reply's status has three digits
abbrev pub HasStatus : List ℕ → Reply → Type 0
HasStatus name reply = IsStatusCode (parts_of name reply).status

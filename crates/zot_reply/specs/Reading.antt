-- Replies read back from their bytes.
use Rattle.std.specs.Prelude.{◌≡◌, ◌≢◌, ℕ, Bool, List, Option, Some, IfSome, is_some, option_and_then, option_map, ⊤}
use Rattle.std.specs.List.{AllByRecursion}
use Rattle.std.specs.Fmt.{decimal}
use Rattle.zot_digest.specs.Digest.{IsDigest, digest_named, digest_text}
use Rattle.zot_media.specs.declared.media.Media.{Media}
use Rattle.zot_media.specs.Media.{media_text}
use Rattle.zot_model.specs.Calls.{is_head}
use Rattle.zot_model.specs.declared.call.Call.{Call}
use Rattle.zot_model.specs.declared.call.Call.TheVariants as calls
use Rattle.zot_model.specs.declared.reply.Reply.{Reply}
use Rattle.zot_model.specs.declared.reply.Reply.TheVariants as replies
use Rattle.zot_model.specs.declared.request.Request.{Request}
use Rattle.zot_model.specs.Fits.{Fits, IsBlobMade, IsSuccessOf}
use Rattle.zot_model.specs.Values.{IsReal, IsWord}
use Rattle.zot_names.specs.Tag.{IsTag}
use Rattle.zot_names.specs.Upload.{upload_text}
use Rattle.zot_spell.specs.Alike.{ArePagesAlike, AreSizesAlike}
use Rattle.zot_spell.specs.Bodies.{page_body}
use Rattle.zot_spell.specs.declared.field.Field.{Field}
use Rattle.zot_spell.specs.declared.field_name.FieldName.{FieldName}
use Rattle.zot_spell.specs.declared.field_name.FieldName.TheVariants as names
use Rattle.zot_spell.specs.declared.split.SplitReply.{SplitReply}
use Rattle.zot_spell.specs.Fields.{link_text, range_text}
use Rattle.zot_spell.specs.Heads.{name_text, value_in}
use Rattle.zot_spell.specs.Spelling.{all_fields, name_in, parts_of, reply_bytes, shown_body}

-- the bytes are this reply to the request, after which the connection closes or goes on
pub record Spells (request : Request) (reply : Reply) (bytes : List ℕ) : Type 0 where
  pub fits : Fits request reply
  pub close : Bool
  pub is : bytes ≡ reply_bytes (Some request) reply (is_head request.call) close

-- what is seen of a reply: its status, all its fields, and the body that is shown
pub record Seen : Type 0 where
  pub status : ℕ
  pub fields : List Field
  pub body : List ℕ

abbrev pub seen_with : ℕ → List Field → List ℕ → Seen
seen_with status fields body = record { status = status; fields = fields; body = body }

-- what is seen of bytes that were split
abbrev pub seen_of : SplitReply → Seen
seen_of split = seen_with split.status split.fields.items split.body.now

-- what is seen of a reply to a request on the repository of the name, to the method HEAD or another
abbrev pub seen_in : List ℕ → Reply → Bool → Bool → Seen
seen_in name reply head close = seen_with (parts_of name reply).status (all_fields (parts_of name reply) close) (shown_body head (parts_of name reply).body)

abbrev pub IsSeen : List ℕ → Bool → Reply → Seen → Type 0
IsSeen name head reply seen = (close : Bool) × (seen ≡ seen_in name reply head close)

-- the bytes are this reply to the request, and this is seen of it
pub record IsWanted (request : Request) (reply : Reply) (bytes : List ℕ) (seen : Seen) : Type 0 where
  pub real : IsReal reply
  pub spells : Spells request reply bytes
  pub is_seen : IsSeen (name_in (Some request)) (is_head request.call) reply seen

-- ---- what the replies say that are seen

-- the first field of the name has this value
abbrev pub Has : Seen → FieldName → List ℕ → Type 0
Has seen name text = value_in (name_text name) seen.fields ≡ Some text

-- what is seen of a reply to a request on the repository of the name, where it is no refusal, says its values
abbrev pub Says : List ℕ → Bool → Seen → Reply → Type 0
Says name head seen (replies.Blob digest bytes) = Has seen names.ContentDigest (digest_text digest) × (seen.body ≡ shown_body head bytes)
Says name head seen (replies.BlobHead digest size) = Has seen names.ContentDigest (digest_text digest) × Has seen names.ContentLength (decimal size)
Says name head seen (replies.BlobMade digest) = Has seen names.ContentDigest (digest_text digest) × (seen.status ≡ 201)
Says name head seen (replies.Session id size status) = Has seen names.UploadId (upload_text id) × Has seen names.Range (range_text size) × (seen.status ≡ status)
Says name head seen (replies.ManifestMade digest subject) = Has seen names.ContentDigest (digest_text digest) × (value_in (name_text names.Subject) seen.fields ≡ option_map digest_text subject)
Says name head seen (replies.Manifest digest media bytes) = Has seen names.ContentDigest (digest_text digest) × Has seen names.ContentType (media_text media) × (seen.body ≡ shown_body head bytes)
Says name head seen (replies.ManifestHead digest media size) = Has seen names.ContentDigest (digest_text digest) × Has seen names.ContentType (media_text media) × Has seen names.ContentLength (decimal size)
Says name head seen (replies.Tags tags next n) = (seen.body ≡ shown_body head (page_body name tags)) × (value_in (name_text names.Link) seen.fields ≡ option_map (link_text name n) next)
Says name head seen (replies.Referrers text filtered) = (seen.body ≡ shown_body head text) × (is_some (value_in (name_text names.FiltersApplied) seen.fields) ≡ filtered)
Says name head seen _ = ⊤

-- ---- what is read of them

-- the value of which the field of the name has the text is this one
abbrev pub Finds : {A : Type 0} → (A → Type 0) → (A → List ℕ) → Seen → FieldName → A → Type 0
Finds {A} Is text seen name found = (value : A) → Is value → Has seen name (text value) → value ≡ found

abbrev pub FindsContent : Seen → List ℕ → Type 0
FindsContent seen digest = Finds IsDigest digest_text seen names.ContentDigest digest

abbrev pub FindsMedia : Seen → Media → Type 0
FindsMedia seen media = Finds (λ media. ⊤) media_text seen names.ContentType media

abbrev pub FindsLength : Seen → ℕ → Type 0
FindsLength seen size = Finds IsWord decimal seen names.ContentLength size

abbrev pub FindsId : Seen → ℕ → Type 0
FindsId seen id = Finds IsWord upload_text seen names.UploadId id

-- the size of the upload whose range is seen
abbrev pub FindsSize : Seen → ℕ → Type 0
FindsSize seen size = (n : ℕ) → IsWord n → Has seen names.Range (range_text n) → AreSizesAlike n size

abbrev pub FindsSubject : Seen → Option (List ℕ) → Type 0
FindsSubject seen subject = subject ≡ option_and_then digest_named (value_in (name_text names.Subject) seen.fields)

-- the tags of the page that is seen, and the next page to which it has a link
abbrev pub FindsTags : List ℕ → Seen → List (List ℕ) → Type 0
FindsTags name seen tags = (all : List (List ℕ)) → AllByRecursion IsTag all → seen.body ≡ page_body name all → all ≡ tags

abbrev pub FindsNext : List ℕ → Seen → Option (List ℕ) → ℕ → Type 0
FindsNext name seen next n = (tag : Option (List ℕ)) (m : ℕ) → IfSome tag IsTag → IsWord m
    → value_in (name_text names.Link) seen.fields ≡ option_map (link_text name m) tag → ArePagesAlike tag m next n

-- the values of a reply are those that are seen; those of a page of tags are asked by `IsPageFrom`
abbrev pub IsReadFrom : Seen → Reply → Type 0
IsReadFrom seen (replies.Blob digest bytes) = FindsContent seen digest × (bytes ≡ seen.body)
IsReadFrom seen (replies.BlobHead digest size) = FindsContent seen digest × FindsLength seen size
IsReadFrom seen (replies.BlobMade digest) = FindsContent seen digest
IsReadFrom seen (replies.Session id size status) = FindsId seen id × FindsSize seen size × (status ≡ seen.status)
IsReadFrom seen (replies.ManifestMade digest subject) = FindsContent seen digest × FindsSubject seen subject
IsReadFrom seen (replies.Manifest digest media bytes) = FindsContent seen digest × FindsMedia seen media × (bytes ≡ seen.body)
IsReadFrom seen (replies.ManifestHead digest media size) = FindsContent seen digest × FindsMedia seen media × FindsLength seen size
IsReadFrom seen (replies.Referrers text filtered) = (text ≡ seen.body) × (filtered ≡ is_some (value_in (name_text names.FiltersApplied) seen.fields))
IsReadFrom seen _ = ⊤

-- ---- kinds

-- a page of tags of the repository of the name, as it is seen
abbrev pub IsPageFrom : List ℕ → Seen → Reply → Type 0
IsPageFrom name seen (replies.Tags tags next n) = FindsTags name seen tags × FindsNext name seen next n
IsPageFrom name seen _ = ⊥

-- an upload, whatever its status
abbrev pub IsUpload : Reply → Type 0
IsUpload (replies.Session id size status) = ⊤
IsUpload _ = ⊥

-- a blob was stored, or an upload began, as the status says
abbrev pub IsPosting : Seen → Reply → Type 0
IsPosting seen (replies.BlobMade digest) = seen.status ≡ 201
IsPosting seen (replies.Session id size status) = seen.status ≢ 201
IsPosting seen _ = ⊥

-- the kind of a call's success, of which the status and the page are read
abbrev pub IsKindOf : List ℕ → Call → Seen → Reply → Type 0
IsKindOf name (calls.Post mount digest body) seen reply = IsPosting seen reply
IsKindOf name (calls.Patch id range body) seen reply = IsUpload reply
IsKindOf name (calls.Finish id range digest body) seen reply = IsBlobMade reply
IsKindOf name (calls.UploadState id) seen reply = IsUpload reply
IsKindOf name (calls.Tags n last) seen reply = IsPageFrom name seen reply
IsKindOf name call seen reply = IsSuccessOf call reply

-- a reply of this kind, with the values that are seen
abbrev pub IsReadAs : (Reply → Type 0) → Seen → Reply → Type 0
IsReadAs Kind seen reply = Kind reply × IsReadFrom seen reply

-- the success of a call on the repository of the name that is seen
abbrev pub IsSuccessFrom : List ℕ → Call → Seen → Reply → Type 0
IsSuccessFrom name call seen reply = IsReadAs (IsKindOf name call seen) seen reply

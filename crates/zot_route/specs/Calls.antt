-- The call that a message makes, by its method, on a path of each form, or its refusal. Of several causes to refuse, the one that stands first counts.
use Rattle.std.specs.Prelude.{◌≡◌, ◌≢◌, ℕ, ◌<◌, ◌≤◌, ◌^◌, ◌==◌, ◌⊎◌, if◌then◌else◌, List, length, Option, Some, None, Result, Ok, Err}
use Rattle.std.specs.List.{list_any}
use Rattle.zot_digest.specs.Digest.{digest_named}
use Rattle.zot_head.specs.declared.field.Field.{Field}
use Rattle.zot_head.specs.Fields.{length_of}
use Rattle.zot_media.specs.declared.media.Media.{Media}
use Rattle.zot_media.specs.declared.reference.Reference.{Reference}
use Rattle.zot_media.specs.declared.reference.Reference.TheVariants as references
use Rattle.zot_model.specs.declared.call.Call.{Call}
use Rattle.zot_model.specs.declared.call.Call.TheVariants as calls
use Rattle.zot_model.specs.declared.code.Code.TheVariants.{DigestInvalid, ManifestInvalid, ManifestUnknown, SizeInvalid}
use Rattle.zot_model.specs.declared.methods.Methods.TheVariants as methods
use Rattle.zot_model.specs.declared.mount.Mount.{Mount}
use Rattle.zot_model.specs.declared.reply.Reply.{Reply}
use Rattle.zot_model.specs.declared.span.Span.{Span}
use Rattle.zot_model.specs.Refusals.{not_allowed, range_invalid, refusal, unsupported_query}
use Rattle.zot_model.specs.Valid.{manifest_limit}
use Rattle.zot_names.specs.Name.{IsName}
use Rattle.zot_names.specs.Tag.{IsTag}
use Rattle.zot_names.specs.Upload.{upload_text}
use Rattle.zot_route.specs.declared.method.Method.{Method}
use Rattle.zot_route.specs.declared.method.Method.TheVariants.{Delete, Get, Head, Patch, Post, Put}
use Rattle.zot_route.specs.Lines.{AreMedia}

-- the call that a message makes, or the refusal of a message that makes none
abbrev pub CallOrRefusal : Type 0
CallOrRefusal = Result Call Reply

-- ---- digests

-- a text that has to be a digest
abbrev pub digest_or : Option (List ℕ) → Result (List ℕ) Reply
digest_or (Some digest) = Ok digest
digest_or None = Err (refusal DigestInvalid)

-- a call on a digest
abbrev pub on_digest : (List ℕ → Call) → Result (List ℕ) Reply → CallOrRefusal
on_digest call (Ok digest) = Ok (call digest)
on_digest call (Err reply) = Err reply

-- the same of a text that is there
abbrev pub some_digest : Result (List ℕ) Reply → Result (Option (List ℕ)) Reply
some_digest (Ok digest) = Ok (Some digest)
some_digest (Err reply) = Err reply

-- a text that has to be a digest where it is there
abbrev pub optional_digest : Option (List ℕ) → Result (Option (List ℕ)) Reply
optional_digest None = Ok None
optional_digest (Some text) = some_digest (digest_or (digest_named text))

-- ---- the base route, blobs and the lists

-- `/v2/`
abbrev pub base_call : Method → CallOrRefusal
base_call Get = Ok calls.Base
base_call Head = Ok calls.Base
base_call _ = Err (not_allowed methods.Read)

-- `blobs/TEXT`
abbrev pub blob_call : Method → List ℕ → CallOrRefusal
blob_call Get text = on_digest calls.GetBlob (digest_or (digest_named text))
blob_call Head text = on_digest calls.HeadBlob (digest_or (digest_named text))
blob_call Delete text = on_digest calls.DeleteBlob (digest_or (digest_named text))
blob_call _ text = Err (not_allowed methods.Blob)

-- `referrers/TEXT`, with `artifactType` of the query
abbrev pub referrers_call : Method → List ℕ → Option (List ℕ) → CallOrRefusal
referrers_call Get text filter = on_digest (λ digest. calls.Referrers digest filter) (digest_or (digest_named text))
referrers_call _ text filter = Err (not_allowed methods.List)

-- a number that has to be one
abbrev pub some_number : Option ℕ → Result (Option ℕ) Reply
some_number (Some n) = Ok (Some n)
some_number None = Err unsupported_query

-- a text that has to be 1 to 18 digits where it is there
abbrev pub number_or : Option (List ℕ) → Result (Option ℕ) Reply
number_or None = Ok None
number_or (Some text) = some_number (length_of text)

-- a page of tags
abbrev pub page_of : Option (List ℕ) → Result (Option ℕ) Reply → CallOrRefusal
page_of last (Ok n) = Ok (calls.Tags n last)
page_of last (Err reply) = Err reply

-- `tags/list`, with `n` and `last` of the query
abbrev pub tags_call : Method → Option (List ℕ) → Option (List ℕ) → CallOrRefusal
tags_call Get n last = page_of last (number_or n)
tags_call _ n last = Err (not_allowed methods.List)

-- ---- uploads

-- the name that a text is, where it is there and is one
abbrev pub IsFrom : Option (List ℕ) → Option (List ℕ) → Type 0
IsFrom None from = from ≡ None
IsFrom (Some text) None = ¬ IsName text
IsFrom (Some text) (Some name) = IsName text × (name ≡ text)

-- a blob to be taken over, where there is a digest
abbrev pub mount_of : Option (List ℕ) → Option (List ℕ) → Option Mount
mount_of None from = None
mount_of (Some digest) from = Some (record { digest = digest; from = from })

-- the POST with these digests
abbrev pub post_of : Option (List ℕ) → List ℕ → Result (Option (List ℕ)) Reply → Result (Option (List ℕ)) Reply → CallOrRefusal
post_of from body (Err reply) digest = Err reply
post_of from body (Ok mount) (Err reply) = Err reply
post_of from body (Ok mount) (Ok digest) = Ok (calls.Post (mount_of mount from) digest body)

-- `blobs/uploads/`, with `mount`, `from` and `digest` of the query
abbrev pub post_call : Method → Option (List ℕ) → Option (List ℕ) → Option (List ℕ) → List ℕ → CallOrRefusal
post_call Post mount from digest body = post_of from body (optional_digest mount) (optional_digest digest)
post_call _ mount from digest body = Err (not_allowed methods.Begin)

-- the upload whose id a text is, or none
abbrev pub IsId : List ℕ → Option ℕ → Type 0
IsId text (Some id) = (id < 2 ^ 64) × (text ≡ upload_text id)
IsId text None = (id : ℕ) → id < 2 ^ 64 → text ≢ upload_text id

-- a range that has to be one where it is there
abbrev pub range_or : Option (Option Span) → Result (Option Span) Reply
range_or (Some range) = Ok range
range_or None = Err range_invalid

-- a text that has to be there, and a digest
abbrev pub needed_digest : Option (List ℕ) → Result (List ℕ) Reply
needed_digest (Some text) = digest_or (digest_named text)
needed_digest None = Err (refusal DigestInvalid)

-- more bytes of an upload
abbrev pub patch_of : Option ℕ → List ℕ → Result (Option Span) Reply → CallOrRefusal
patch_of id body (Ok range) = Ok (calls.Patch id range body)
patch_of id body (Err reply) = Err reply

-- the last bytes of an upload
abbrev pub finish_of : Option ℕ → List ℕ → Result (List ℕ) Reply → Result (Option Span) Reply → CallOrRefusal
finish_of id body (Err reply) range = Err reply
finish_of id body (Ok digest) (Err reply) = Err reply
finish_of id body (Ok digest) (Ok range) = Ok (calls.Finish id range digest body)

-- `blobs/uploads/TEXT`, with `digest` of the query and `Content-Range`
abbrev pub upload_call : Method → Option ℕ → Option (Option Span) → Option (List ℕ) → List ℕ → CallOrRefusal
upload_call Get id range digest body = Ok (calls.UploadState id)
upload_call Patch id range digest body = patch_of id body (range_or range)
upload_call Put id range digest body = finish_of id body (needed_digest digest) (range_or range)
upload_call _ id range digest body = Err (not_allowed methods.Upload)

-- ---- manifests

-- how a text refers to a manifest: by a digest, or by a tag, which has no `:`
abbrev pub IsReference : List ℕ → Reference → Type 0
IsReference text (references.Digest digest) = digest_named text ≡ Some digest
IsReference text (references.Tag tag) = IsTag text × (tag ≡ text)

-- a text that refers to none: it may be meant as a digest, and else it is refused so
abbrev pub bad_reference : List ℕ → Reply → Reply
bad_reference text other = if list_any (λ b. b == 58) text then refusal DigestInvalid else other

-- how a text refers to a manifest, or how it is refused
abbrev pub Refers : List ℕ → Reply → Result Reference Reply → Type 0
Refers text other (Ok reference) = IsReference text reference
Refers text other (Err reply) = ((reference : Reference) → ¬ IsReference text reference) × (reply ≡ bad_reference text other)

-- a call on a reference
abbrev pub on_reference : (Reference → Call) → Result Reference Reply → CallOrRefusal
on_reference call (Ok reference) = Ok (call reference)
on_reference call (Err reply) = Err reply

-- a manifest to be stored, in at most as many bytes as one may have
abbrev pub IsPutCall : List Field → List ℕ → Result Reference Reply → CallOrRefusal → Type 0
IsPutCall fields body (Err reply) call = call ≡ Err reply
IsPutCall fields body (Ok reference) call =
    ((manifest_limit < length body) × (call ≡ Err (refusal SizeInvalid)))
    ⊎ ((length body ≤ manifest_limit) × (media : Option Media) × AreMedia fields body media × (call ≡ Ok (calls.PutManifest reference media body)))

-- `manifests/TEXT`, with `Content-Type`
abbrev pub IsManifestCall : Method → List ℕ → List Field → List ℕ → CallOrRefusal → Type 0
IsManifestCall Get text fields body call = (reference : Result Reference Reply) × Refers text (refusal ManifestUnknown) reference × (call ≡ on_reference calls.GetManifest reference)
IsManifestCall Head text fields body call = (reference : Result Reference Reply) × Refers text (refusal ManifestUnknown) reference × (call ≡ on_reference calls.HeadManifest reference)
IsManifestCall Delete text fields body call = (reference : Result Reference Reply) × Refers text (refusal ManifestUnknown) reference × (call ≡ on_reference calls.DeleteManifest reference)
IsManifestCall Put text fields body call = (reference : Result Reference Reply) × Refers text (refusal ManifestInvalid) reference × IsPutCall fields body reference call
IsManifestCall _ text fields body call = call ≡ Err (not_allowed methods.Manifest)

-- The values that are seen of replies, and those that are read of them.
use Rattle.std.proofs.Common.{◌≡◌, ℕ, ◌-◌, Bool, true, false, List, Option, Some, None, refl, sym, ap, ap₂, subst, ◌∙◌, arith}
use Rattle.std.specs.Fmt.{decimal}
use Rattle.std.specs.Int.{w64, from_be_bytes, to_be_bytes}
use Rattle.std.specs.Prelude.{IfSome, codes, option_and_then, option_map, ⊤}
use Rattle.std.proofs.lemmas.Fmt.{decimal_injective}
use Rattle.std.proofs.lemmas.Nat.{from_be_bytes-to_be_bytes_8}
use Rattle.hex.specs.Hex.{decode_sized}
use Rattle.zot_digest.proofs.DigestLemmas.{digest_named-digest_text}
use Rattle.zot_digest.specs.Digest.{IsDigest, digest_named, digest_text}
use Rattle.zot_media.proofs.MediaLemmas.{named_text}
use Rattle.zot_media.specs.declared.media.Media.{Media}
use Rattle.zot_media.specs.Media.{media_named, media_text}
use Rattle.zot_model.specs.Calls.{is_head}
use Rattle.zot_model.specs.declared.call.Call.{Call}
use Rattle.zot_model.specs.declared.call.Call.TheVariants as calls
use Rattle.zot_model.specs.declared.code.Code.{Code}
use Rattle.zot_model.specs.declared.detail.Detail.TheVariants as details
use Rattle.zot_model.specs.declared.mount.Mount.{Mount}
use Rattle.zot_model.specs.declared.reply.Reply.{Reply}
use Rattle.zot_model.specs.declared.reply.Reply.TheVariants as replies
use Rattle.zot_model.specs.Fits.{IsBase, IsBlob, IsBlobHead, IsBlobMade, IsDeleted, IsManifest, IsManifestHead, IsManifestMade, IsPage, IsPosted, IsReferrers, IsSession, IsSuccessOf}
use Rattle.zot_model.specs.Values.{IsReal, IsWord}
use Rattle.zot_names.proofs.UploadLemmas.{decode_sized-upload_text}
use Rattle.zot_names.specs.Tag.{IsTag}
use Rattle.zot_names.specs.Upload.{upload_text}
use Rattle.zot_spell.specs.Alike.{AreAlike, ArePagesAlike}
use Rattle.zot_spell.specs.declared.field_name.FieldName.{FieldName}
use Rattle.zot_spell.specs.declared.field_name.FieldName.TheVariants as names
use Rattle.zot_spell.specs.Fields.{closing_fields, filter_fields, length_fields, link_fields, link_text, range_text, subject_fields, upload_fields}
use Rattle.zot_spell.specs.Heads.{field_of, length_field_of, name_text, type_fields}
use Rattle.zot_spell.specs.Spelling.{all_fields, parts_of, refusal_fields, shown_body}
use Rattle.zot_spell.proofs.CutLemmas.{cut_front}
use Rattle.zot_reply.proofs.PageLemmas.{same_link, same_pages}
use Rattle.zot_reply.specs.Reading.{Finds, FindsSize, Has, IsPageFrom, IsPosting, IsReadFrom, IsSeen, IsSuccessFrom, IsUpload, Says, Seen, seen_in}

-- what is seen of a reply says its values
pub says : (name : List ℕ) (reply : Reply) (head close : Bool) → Says name head (seen_in name reply head close) reply
unfolding parts_of all_fields field_of name_text type_fields length_fields length_field_of upload_fields subject_fields link_fields filter_fields closing_fields
says name (replies.Blob digest bytes) head close = (refl, refl)
says name (replies.BlobHead digest size) head close = (refl, refl)
says name (replies.BlobMade digest) head close = (refl, refl)
says name (replies.Session id size status) head close = (refl, refl, refl)
says name (replies.ManifestMade digest (Some subject)) head close = (refl, refl)
says name (replies.ManifestMade digest None) head true = (refl, refl)
says name (replies.ManifestMade digest None) head false = (refl, refl)
says name (replies.Manifest digest media bytes) head close = (refl, refl, refl)
says name (replies.ManifestHead digest media size) head close = (refl, refl, refl)
says name (replies.Tags tags (Some next) n) head close = (refl, refl)
says name (replies.Tags tags None n) head true = (refl, refl)
says name (replies.Tags tags None n) head false = (refl, refl)
says name (replies.Referrers text true) head close = (refl, refl)
says name (replies.Referrers text false) head true = (refl, refl)
says name (replies.Referrers text false) head false = (refl, refl)
says name reply head close = tt

-- so does a refusal that says how far an upload has come
pub refusal_says : (name : List ℕ) (status : ℕ) (code : Code) (id size : ℕ) (head close : Bool)
    → Has (seen_in name (replies.Refused status code (details.Session id size)) head close) names.UploadId (upload_text id) × Has (seen_in name (replies.Refused status code (details.Session id size)) head close) names.Range (range_text size)
unfolding parts_of all_fields field_of name_text upload_fields refusal_fields
refusal_says name status code id size head close = (refl, refl)

pub seen_says : (name : List ℕ) (head : Bool) (reply : Reply) (seen : Seen) → IsSeen name head reply seen → Says name head seen reply
seen_says name head reply seen (close, is) = subst (λ (s : Seen). Says name head s reply) (sym is) (says name reply head close)

-- ---- values with the same texts

some_back : {A : Type 0} (a x : A) → Some a ≡ Some x → a ≡ x
some_back a x h = cc h

pub same_digest : (d f : List ℕ) → IsDigest d → IsDigest f → digest_text d ≡ digest_text f → d ≡ f
same_digest d f x y e = some_back d f (sym (digest_named-digest_text d x) ∙ ap digest_named e ∙ digest_named-digest_text f y)

same_id : (i j : ℕ) → IsWord i → IsWord j → upload_text i ≡ upload_text j → i ≡ j
same_id i j x y e =
    let bytes : to_be_bytes w64 i ≡ to_be_bytes w64 j = cc (decode_sized-upload_text i, ap (λ (t : List ℕ). decode_sized t 8) e, decode_sized-upload_text j) in
    sym (from_be_bytes-to_be_bytes_8 i x) ∙ ap (from_be_bytes w64) bytes ∙ from_be_bytes-to_be_bytes_8 j y

same_media : (media other : Media) → media_text media ≡ media_text other → media ≡ other
same_media media other e = some_back media other (sym (named_text media) ∙ ap media_named e ∙ named_text other)

subject_back : (subject value : Option (List ℕ)) → IfSome subject IsDigest → value ≡ option_map digest_text subject → option_and_then digest_named value ≡ subject
subject_back None value is e = ap (option_and_then digest_named) e
subject_back (Some digest) value is e = ap (option_and_then digest_named) e ∙ digest_named-digest_text digest is

-- ---- what is seen of a reply is read as its values

finds : {A : Type 0} (Is : A → Type 0) (text : A → List ℕ) (seen : Seen) (name : FieldName) (b : A) → ((x : A) → Is x → text x ≡ text b → x ≡ b) → Has seen name (text b) → Finds Is text seen name b
finds Is text seen name b one has = λ x is h. one x is (some_back (text x) (text b) (sym h ∙ has))

finds_digest : (seen : Seen) (digest : List ℕ) → IsDigest digest → Has seen names.ContentDigest (digest_text digest) → Finds IsDigest digest_text seen names.ContentDigest digest
finds_digest seen digest real has = finds IsDigest digest_text seen names.ContentDigest digest (λ d is e. same_digest d digest is real e) has

finds_media : (seen : Seen) (media : Media) → Has seen names.ContentType (media_text media) → Finds (λ media. ⊤) media_text seen names.ContentType media
finds_media seen media has = finds (λ media. ⊤) media_text seen names.ContentType media (λ m is e. same_media m media e) has

finds_length : (seen : Seen) (size : ℕ) → IsWord size → Has seen names.ContentLength (decimal size) → Finds IsWord decimal seen names.ContentLength size
finds_length seen size real has = finds IsWord decimal seen names.ContentLength size (λ n is e. decimal_injective n size is real e) has

pub finds_id : (seen : Seen) (id : ℕ) → IsWord id → Has seen names.UploadId (upload_text id) → Finds IsWord upload_text seen names.UploadId id
finds_id seen id real has = finds IsWord upload_text seen names.UploadId id (λ i is e. same_id i id is real e) has

pub finds_size : (seen : Seen) (size : ℕ) → IsWord size → Has seen names.Range (range_text size) → FindsSize seen size
unfolding range_text
finds_size seen size real has = λ n is h.
    decimal_injective (n - 1) (size - 1) (omega (arith, is)) (omega (arith, real)) (cut_front (codes "0-") (decimal (n - 1)) (decimal (size - 1)) (some_back (range_text n) (range_text size) (sym h ∙ has)))

next_alike : (name : List ℕ) (t u : Option (List ℕ)) (m n : ℕ) → IfSome t IsTag → IfSome u IsTag → IsWord m → IsWord n → option_map (link_text name m) t ≡ option_map (link_text name n) u → ArePagesAlike t m u n
next_alike name None None m n p q x y e = tt
next_alike name (Some t) (Some u) m n p q x y e = same_link name m n t u x y p q (some_back (link_text name m t) (link_text name n u) e)
next_alike name None (Some u) m n p q x y e = cc e
next_alike name (Some t) None m n p q x y e = cc e

read_back : (name : List ℕ) (seen : Seen) (reply : Reply) → IsReal reply → Says name false seen reply → IsReadFrom seen reply
unfolding shown_body
read_back name seen (replies.Blob digest bytes) real says = (finds_digest seen digest real says.0, sym says.1)
read_back name seen (replies.BlobHead digest size) real says = (finds_digest seen digest real.0 says.0, finds_length seen size real.1 says.1)
read_back name seen (replies.BlobMade digest) real says = finds_digest seen digest real says.0
read_back name seen (replies.Session id size status) real says = (finds_id seen id real.0 says.0, finds_size seen size real.1 says.1, sym says.2)
read_back name seen (replies.ManifestMade digest subject) real says = (finds_digest seen digest real.0 says.0, sym (subject_back subject _ real.1 says.1))
read_back name seen (replies.Manifest digest media bytes) real says = (finds_digest seen digest real says.0, finds_media seen media says.1, sym says.2)
read_back name seen (replies.ManifestHead digest media size) real says = (finds_digest seen digest real.0 says.0, finds_media seen media says.1, finds_length seen size real.1 says.2)
read_back name seen (replies.Referrers text filtered) real says = (sym says.0, sym says.1)
read_back name seen reply real says = tt

page_back : (name : List ℕ) (seen : Seen) (reply : Reply) → IsPage reply → IsReal reply → Says name false seen reply → IsPageFrom name seen reply
unfolding shown_body
page_back name seen (replies.Tags tags next n) kind real says =
    ((λ all are e. same_pages name all tags are real.0 (sym e ∙ says.0)), (λ tag m is long h. next_alike name tag next m n is real.1 long real.2 (sym h ∙ says.1)))
page_back name seen reply kind real says = absurd kind

posting_back : (name : List ℕ) (mount : Option Mount) (digest : Option (List ℕ)) (seen : Seen) (reply : Reply) → IsPosted mount digest reply → Says name false seen reply → IsPosting seen reply
posting_back name mount digest seen (replies.BlobMade made) h says = says.1
posting_back name mount None seen (replies.Session id size status) h says = λ e. absurd (omega (arith, e, says.2, h))
posting_back name mount None seen reply h says = absurd h
posting_back name mount (Some digest) seen reply h says = absurd h

upload_of : (status : ℕ) (reply : Reply) → IsSession status reply → IsUpload reply
upload_of status (replies.Session id size other) h = tt
upload_of status reply h = absurd h

pub success_back : (name : List ℕ) (call : Call) (seen : Seen) (reply : Reply) → IsSuccessOf call reply → IsReal reply → Says name (is_head call) seen reply → IsSuccessFrom name call seen reply
success_back name (calls.HeadBlob digest) seen (replies.BlobHead d n) h real says = (tt, read_back name seen (replies.BlobHead d n) real says)
success_back name (calls.HeadBlob digest) seen reply h real says = absurd h
success_back name (calls.HeadManifest reference) seen (replies.ManifestHead d m n) h real says = (tt, read_back name seen (replies.ManifestHead d m n) real says)
success_back name (calls.HeadManifest reference) seen reply h real says = absurd h
success_back name (calls.Post mount digest body) seen reply h real says = (posting_back name mount digest seen reply h says, read_back name seen reply real says)
success_back name (calls.Patch None range body) seen reply h real says = absurd h
success_back name (calls.Patch (Some id) range body) seen reply h real says = (upload_of 202 reply h, read_back name seen reply real says)
success_back name (calls.Finish None range digest body) seen reply h real says = absurd h
success_back name (calls.UploadState None) seen reply h real says = absurd h
success_back name (calls.UploadState (Some id)) seen reply h real says = (upload_of 204 reply h, read_back name seen reply real says)
success_back name (calls.Tags n last) seen reply h real says = (page_back name seen reply h real says, read_back name seen reply real says)
success_back name call seen reply h real says = (h, read_back name seen reply real says)

-- ---- what is read is alike to the success that is seen

-- each reply of the first kind, whose values are seen, is alike to the one of the second kind that is read
abbrev AreReadAlike : Bool → (Reply → Type 0) → (Reply → Type 0) → Type 0
AreReadAlike head Kind Other = (name : List ℕ) (seen : Seen) (a b : Reply) → Kind a → IsReal a → Says name head seen a → Other b → IsReadFrom seen b → AreAlike head a b

bases : AreReadAlike false IsBase IsBase
bases name seen replies.Base replies.Base h real says k read = refl
bases name seen replies.Base b h real says k read = absurd k
bases name seen a b h real says k read = absurd h

deletions : AreReadAlike false IsDeleted IsDeleted
deletions name seen replies.Deleted replies.Deleted h real says k read = refl
deletions name seen replies.Deleted b h real says k read = absurd k
deletions name seen a b h real says k read = absurd h

blobs : AreReadAlike false IsBlob IsBlob
unfolding shown_body
blobs name seen (replies.Blob d v) (replies.Blob f w) h real says k read = ap₂ replies.Blob (read.0 d real says.0) (sym says.1 ∙ sym read.1)
blobs name seen (replies.Blob d v) b h real says k read = absurd k
blobs name seen a b h real says k read = absurd h

blob_heads : AreReadAlike true IsBlobHead IsBlobHead
blob_heads name seen (replies.BlobHead d n) (replies.BlobHead f m) h real says k read = ap₂ replies.BlobHead (read.0 d real.0 says.0) (read.1 n real.1 says.1)
blob_heads name seen (replies.BlobHead d n) b h real says k read = absurd k
blob_heads name seen a b h real says k read = absurd h

blobs_made : AreReadAlike false IsBlobMade IsBlobMade
blobs_made name seen (replies.BlobMade d) (replies.BlobMade f) h real says k read = ap replies.BlobMade (read d real says.0)
blobs_made name seen (replies.BlobMade d) b h real says k read = absurd k
blobs_made name seen a b h real says k read = absurd h

uploads : (status : ℕ) (name : List ℕ) (seen : Seen) (a b : Reply) → IsSession status a → IsReal a → Says name false seen a → IsUpload b → IsReadFrom seen b → AreAlike false a b × IsSession status b
uploads status name seen (replies.Session i n s) (replies.Session j m t) h real says k read = ((read.0 i real.0 says.0, read.1 n real.1 says.1, sym says.2 ∙ sym read.2), read.2 ∙ says.2 ∙ h)
uploads status name seen (replies.Session i n s) b h real says k read = absurd k
uploads status name seen a b h real says k read = absurd h

postings : (name : List ℕ) (mount : Option Mount) (digest : Option (List ℕ)) (seen : Seen) (a b : Reply) → IsPosted mount digest a → IsReal a → Says name false seen a → IsPosting seen b → IsReadFrom seen b → AreAlike false a b × IsPosted mount digest b
postings name mount None seen (replies.BlobMade d) (replies.BlobMade f) h real says k read = (blobs_made name seen (replies.BlobMade d) (replies.BlobMade f) tt real says tt read, h)
postings name mount (Some digest) seen (replies.BlobMade d) (replies.BlobMade f) h real says k read = (blobs_made name seen (replies.BlobMade d) (replies.BlobMade f) tt real says tt read, tt)
postings name mount None seen (replies.Session i n s) (replies.Session j m t) h real says k read = uploads 202 name seen (replies.Session i n s) (replies.Session j m t) h real says tt read
postings name mount digest seen (replies.BlobMade d) (replies.Session j m t) h real says k read = absurd (k says.1)
postings name mount None seen (replies.Session i n s) (replies.BlobMade f) h real says k read = absurd (omega (arith, k, says.2, h))
postings name mount digest seen (replies.BlobMade d) b h real says k read = absurd k
postings name mount None seen (replies.Session i n s) b h real says k read = absurd k
postings name mount None seen a b h real says k read = absurd h
postings name mount (Some digest) seen a b h real says k read = absurd h

manifests_made : AreReadAlike false IsManifestMade IsManifestMade
manifests_made name seen (replies.ManifestMade d v) (replies.ManifestMade f w) h real says k read = ap₂ replies.ManifestMade (read.0 d real.0 says.0) (sym (read.1 ∙ subject_back v _ real.1 says.1))
manifests_made name seen (replies.ManifestMade d v) b h real says k read = absurd k
manifests_made name seen a b h real says k read = absurd h

manifests : AreReadAlike false IsManifest IsManifest
unfolding shown_body
manifests name seen (replies.Manifest d u v) (replies.Manifest f t w) h real says k read =
    let digest : d ≡ f = read.0 d real says.0 in
    let media : u ≡ t = read.1 u tt says.1 in
    let bytes : v ≡ w = sym says.2 ∙ sym read.2 in
    cc
manifests name seen (replies.Manifest d u v) b h real says k read = absurd k
manifests name seen a b h real says k read = absurd h

manifest_heads : AreReadAlike true IsManifestHead IsManifestHead
manifest_heads name seen (replies.ManifestHead d u n) (replies.ManifestHead f t m) h real says k read =
    let digest : d ≡ f = read.0 d real.0 says.0 in
    let media : u ≡ t = read.1 u tt says.1 in
    let size : n ≡ m = read.2 n real.1 says.2 in
    cc
manifest_heads name seen (replies.ManifestHead d u n) b h real says k read = absurd k
manifest_heads name seen a b h real says k read = absurd h

pages : (name : List ℕ) (seen : Seen) (a b : Reply) → IsPage a → IsReal a → Says name false seen a → IsPageFrom name seen b → AreAlike false a b × IsPage b
unfolding shown_body
pages name seen (replies.Tags v t n) (replies.Tags w u m) h real says k = ((k.0 v real.0 says.0, k.1 t n real.1 real.2 says.1), tt)
pages name seen (replies.Tags v t n) b h real says k = absurd k
pages name seen a b h real says k = absurd h

indexes : AreReadAlike false IsReferrers IsReferrers
unfolding shown_body
indexes name seen (replies.Referrers v t) (replies.Referrers w u) h real says k read = ap₂ replies.Referrers (sym says.0 ∙ sym read.0) (sym says.1 ∙ sym read.1)
indexes name seen (replies.Referrers v t) b h real says k read = absurd k
indexes name seen a b h real says k read = absurd h

pub success_alike : (name : List ℕ) (call : Call) (seen : Seen) (a b : Reply) → IsSuccessOf call a → IsReal a → Says name (is_head call) seen a → IsSuccessFrom name call seen b → AreAlike (is_head call) a b × IsSuccessOf call b
success_alike name calls.Base seen a b h real says r = (bases name seen a b h real says r.0 r.1, r.0)
success_alike name (calls.GetBlob digest) seen a b h real says r = (blobs name seen a b h real says r.0 r.1, r.0)
success_alike name (calls.HeadBlob digest) seen a b h real says r = (blob_heads name seen a b h real says r.0 r.1, r.0)
success_alike name (calls.DeleteBlob digest) seen a b h real says r = (deletions name seen a b h real says r.0 r.1, r.0)
success_alike name (calls.Post mount digest body) seen a b h real says r = postings name mount digest seen a b h real says r.0 r.1
success_alike name (calls.Patch None range body) seen a b h real says r = absurd h
success_alike name (calls.Patch (Some id) range body) seen a b h real says r = uploads 202 name seen a b h real says r.0 r.1
success_alike name (calls.Finish None range digest body) seen a b h real says r = absurd h
success_alike name (calls.Finish (Some id) range digest body) seen a b h real says r = (blobs_made name seen a b h real says r.0 r.1, r.0)
success_alike name (calls.UploadState None) seen a b h real says r = absurd h
success_alike name (calls.UploadState (Some id)) seen a b h real says r = uploads 204 name seen a b h real says r.0 r.1
success_alike name (calls.PutManifest reference media body) seen a b h real says r = (manifests_made name seen a b h real says r.0 r.1, r.0)
success_alike name (calls.GetManifest reference) seen a b h real says r = (manifests name seen a b h real says r.0 r.1, r.0)
success_alike name (calls.HeadManifest reference) seen a b h real says r = (manifest_heads name seen a b h real says r.0 r.1, r.0)
success_alike name (calls.DeleteManifest reference) seen a b h real says r = (deletions name seen a b h real says r.0 r.1, r.0)
success_alike name (calls.Tags n last) seen a b h real says r = pages name seen a b h real says r.0
success_alike name (calls.Referrers digest filter) seen a b h real says r = (indexes name seen a b h real says r.0 r.1, r.0)

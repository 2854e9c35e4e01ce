-- What a request's path, query and fields ask is its call.
use Rattle.std.proofs.Common.{◌≡◌, ◌≢◌, ℕ, ◌<◌, ◌==◌, Bool, true, false, Some, None, Ok, Option, IfSome, List, [], ◌∷◌, ◌++◌, codes, decimal, get_or, option_map, refl, sym, ap, subst, ◌∙◌, arith, append_assoc}
use Rattle.std.specs.List.{after_first, before_first}
use Rattle.std.specs.Option.{option_to_list}
use Rattle.std.proofs.lemmas.Bool.{le-leb}
use Rattle.hex.specs.Hex.{decode_sized}
use Rattle.form_urlencoded.proofs.FormLemmas.{split_once_after_at, split_once_before_at}
use Rattle.zot_digest.specs.Digest.{IsDigest, digest_named, digest_text}
use Rattle.zot_digest.proofs.DigestLemmas.{digest_named-digest_text}
use Rattle.zot_head.specs.declared.field.Field.{Field}
use Rattle.zot_head.specs.Fields.{length_of, values_of}
use Rattle.zot_media.specs.declared.media.Media.{Media}
use Rattle.zot_media.specs.declared.media.Media.TheVariants.{DockerImage, DockerList, Image, Index}
use Rattle.zot_media.specs.declared.reference.Reference.{Reference}
use Rattle.zot_media.specs.declared.reference.Reference.TheVariants as references
use Rattle.zot_media.specs.Media.{media_named, media_text}
use Rattle.zot_model.specs.declared.call.Call.{Call}
use Rattle.zot_model.specs.declared.call.Call.TheVariants as calls
use Rattle.zot_model.specs.declared.mount.Mount.{Mount}
use Rattle.zot_model.specs.declared.span.Span.{Span}
use Rattle.zot_model.specs.Valid.{IsShort, IsSpan}
use Rattle.zot_names.specs.Name.{IsName}
use Rattle.zot_names.specs.Upload.{upload_text}
use Rattle.zot_names.proofs.UploadLemmas.{decode_sized-upload_text}
use Rattle.zot_route.specs.Calls.{IsFrom, IsId, IsReference, post_call, digest_or, number_or, on_digest, optional_digest, post_of}
use Rattle.zot_route.specs.declared.method.Method.TheVariants.{Post}
use Rattle.zot_route.specs.Lines.{AreMedia, AreMediaBy, is_hop, is_there, range_by, range_of, span_by, span_of, type_of}
use Rattle.zot_spell.specs.Wire.{dash, hop_value, id_text, media_value, mount_from, reference_text, span_text}
use Rattle.zot_model.specs.Values.{IsMount, IsRef, IsWord}
use Rattle.zot_delivery.proofs.ByteLemmas.{decimal_no_dash, length_of-decimal}
use Rattle.zot_delivery.proofs.WrittenLemmas.{start_short}

-- ---- digests

pub digest_asked : (call : List ℕ → Call) (digest : List ℕ) → IsDigest digest → Ok (call digest) ≡ on_digest call (digest_or (digest_named (digest_text digest)))
digest_asked call digest is = ap (λ (d : Option (List ℕ)). on_digest call (digest_or d)) (sym (digest_named-digest_text digest is))

pub optional : (digest : Option (List ℕ)) → IfSome digest IsDigest → optional_digest (option_map digest_text digest) ≡ Ok digest
optional None h = refl
optional (Some digest) is = rw (digest_named-digest_text digest is) refl

differ : (a b : ℕ) → a < b → a ≢ b
differ a b lt e = omega arith

pub not_uploads : (digest : List ℕ) → digest_text digest ≢ codes "uploads"
unfolding digest_text
not_uploads digest e = differ 115 117 (omega arith) (ap (λ (t : List ℕ). get_or t 0 0) e)

-- ---- mounts

from_named : (from : Option (List ℕ)) → IfSome from IsName → IsFrom from from
from_named None h = refl
from_named (Some name) is = (is, refl)

pub post_asked : (mount : Option Mount) (digest : Option (List ℕ)) (body : List ℕ) → IfSome mount IsMount → IfSome digest IsDigest
    → (from : Option (List ℕ)) × IsFrom (mount_from mount) from
    × (Ok (calls.Post mount digest body) ≡ post_call Post (option_map (λ m. digest_text m.digest) mount) from (option_map digest_text digest) body)
post_asked None digest body h is = (None, refl, sym (ap (post_of None body (Ok None)) (optional digest is)))
post_asked (Some mount) digest body h is =
    (mount.from, from_named mount.from h.from, sym (λ i. post_of mount.from body (optional (Some mount.digest) h.digest i) (optional digest is i)))

-- ---- ids

none_named : (id : ℕ) → dash ≢ upload_text id
none_named id e =
    let bad = ap (λ (t : List ℕ). decode_sized t 8) e ∙ decode_sized-upload_text id in
    cc bad

some_bytes : (id : ℕ) → upload_text id ≢ []
some_bytes id e =
    let bad = sym (ap (λ (t : List ℕ). decode_sized t 8) e) ∙ decode_sized-upload_text id in
    cc bad

pub id_named : (id : Option ℕ) → IfSome id IsWord → IsId (id_text id) id
unfolding id_text
id_named None h = λ id fits e. none_named id e
id_named (Some id) h = (h, refl)

pub id_some : (id : Option ℕ) → id_text id ≢ []
unfolding id_text
id_some None e = cc e
id_some (Some id) e = some_bytes id e

-- ---- numbers and ranges

pub number_read : (n : Option ℕ) → IfSome n IsShort → number_or (option_map decimal n) ≡ Ok n
number_read None h = refl
number_read (Some n) h = rw (length_of-decimal n h) refl

span_read : (span : Span) → IsSpan span → span_of (span_text span) ≡ Some span
unfolding span_of
span_read span is =
    let text : span_text span ≡ decimal span.start ++ 45 ∷ decimal span.end = append_assoc (decimal span.start) (codes "-") (decimal span.end) in
    let short = start_short span is in
    let front : before_first (λ b. b == 45) (span_text span) ≡ decimal span.start =
    ap (before_first (λ b. b == 45)) text ∙ split_once_before_at 45 (decimal span.start) (decimal span.end) (decimal_no_dash span.start short) in
    let back : after_first (λ b. b == 45) (span_text span) ≡ decimal span.end =
    ap (after_first (λ b. b == 45)) text ∙ split_once_after_at 45 (decimal span.start) (decimal span.end) (decimal_no_dash span.start short) in
    let first : length_of (before_first (λ b. b == 45) (span_text span)) ≡ Some span.start = ap length_of front ∙ length_of-decimal span.start short in
    let last : length_of (after_first (λ b. b == 45) (span_text span)) ≡ Some span.end = ap length_of back ∙ length_of-decimal span.end is.end in
    (λ i. span_by (first i) (last i)) ∙ rw (le-leb span.start span.end is.ordered) refl

range_by-value : (range : Option Span) → IfSome range IsSpan → range_by (option_to_list (option_map span_text range)) ≡ Some range
range_by-value None h = refl
range_by-value (Some span) h = rw (span_read span h) refl

pub range_read : (fields : List Field) (range : Option Span) → IfSome range IsSpan → values_of (codes "content-range") fields ≡ option_to_list (option_map span_text range) → range_of fields ≡ Some range
unfolding range_of
range_read fields range h e = ap range_by e ∙ range_by-value range h

hop_there : (hop : Bool) → is_there (option_to_list (hop_value hop)) ≡ hop
hop_there true = refl
hop_there false = refl

pub hop_read : (fields : List Field) (hop : Bool) → values_of (codes "x-zot-cluster-hop-count") fields ≡ option_to_list (hop_value hop) → is_hop fields ≡ hop
unfolding is_hop
hop_read fields hop e = ap is_there e ∙ hop_there hop

-- ---- manifests

pub refers : (reference : Reference) → IsRef reference → IsReference (reference_text reference) reference
unfolding reference_text
refers (references.Tag tag) is = (is, refl)
refers (references.Digest digest) is = digest_named-digest_text digest is

media_read : (media : Option Media) → media ≡ media_named (type_of (media_value media))
unfolding media_value media_text type_of
media_read None = refl
media_read (Some Image) = refl
media_read (Some Index) = refl
media_read (Some DockerImage) = refl
media_read (Some DockerList) = refl

pub are_media : (fields : List Field) (body : List ℕ) (media : Option Media) → values_of (codes "content-type") fields ≡ media_value media ∷ [] → AreMedia fields body media
unfolding AreMedia
are_media fields body media e = subst (λ (v : List (List ℕ)). AreMediaBy v body media) (sym e) (media_read media)

-- A message has one outcome.
use Rattle.std.proofs.Common.{◌≡◌, ℕ, ◌<◌, ◌^◌, Bool, true, false, Some, None, Ok, Err, inl, inr, List, [], ◌∷◌, ◌++◌, take, drop, refl, sym, ap, subst, ◌∙◌, arith, codes}
use Rattle.std.specs.Prelude.{Option, Result, IfOk, IsUtf8, if◌then◌else◌}
use Rattle.std.specs.declared.alloc.AllocError.{AllocError}
use Rattle.std.specs.Int.{w64, from_be_bytes, to_be_bytes}
use Rattle.std.specs.List.{AllByRecursion, AllPass, list_all}
use Rattle.std.specs.Str.{bytes_eq}
use Rattle.std.proofs.lemmas.List.{take-append-drop}
use Rattle.std.proofs.lemmas.List.Sums.{list_all-from_AllPass}
use Rattle.std.proofs.lemmas.Nat.{from_be_bytes-to_be_bytes_8}
use Rattle.std.proofs.lemmas.Slice.Eq.{bytes_eq-Decides}
use Rattle.zot_digest.specs.Digest.{algorithm, digest_named, digest_of_digits}
use Rattle.zot_head.specs.declared.field.Field.{Field}
use Rattle.zot_head.specs.declared.head.Head.{Head}
use Rattle.zot_head.specs.Fields.{values_of}
use Rattle.zot_media.specs.declared.media.Media.{Media}
use Rattle.zot_media.specs.declared.reference.Reference.{Reference}
use Rattle.zot_media.specs.declared.reference.Reference.TheVariants as references
use Rattle.zot_model.specs.declared.call.Call.{Call}
use Rattle.zot_model.specs.declared.call.Call.TheVariants as calls
use Rattle.zot_model.specs.declared.code.Code.TheVariants.{ManifestInvalid, ManifestUnknown}
use Rattle.zot_model.specs.declared.reply.Reply.{Reply}
use Rattle.zot_model.specs.Refusals.{refusal}
use Rattle.zot_names.specs.Tag.{IsTag, is_tag_byte}
use Rattle.zot_names.specs.Upload.{upload_text}
use Rattle.zot_names.proofs.ByteLemmas.{tag_bytes}
use Rattle.zot_names.proofs.UploadLemmas.{decode_sized-upload_text}
use Rattle.zot_route.specs.Calls.{CallOrRefusal, IsFrom, IsId, IsManifestCall, IsPutCall, IsReference, Refers, on_reference, post_call, upload_call}
use Rattle.zot_route.specs.Lines.{AreMedia, AreMediaBy, is_hop, range_of}
use Rattle.zot_route.specs.Methods.{method_of}
use Rattle.zot_route.specs.Path.{IsPath, segments_of}
use Rattle.zot_route.specs.Routes.{IsCall, HasNoPath, Names, Routes, RoutesPath, in_query, routed_as}
use Rattle.zot_route.specs.declared.form.Form.{Form}
use Rattle.zot_route.specs.declared.form.Form.TheVariants as forms
use Rattle.zot_route.specs.declared.routed.Routed.{Routed}
use Rattle.zot_route.specs.declared.method.Method.{Method}
use Rattle.zot_route.specs.declared.method.Method.TheVariants.{Delete, Get, Head as HeadMethod, Other, Patch, Post, Put}
use Rattle.zot_route.proofs.EndingLemmas.{path_one}
use Rattle.zot_route.proofs.RouteLemmas.{if_ok}

-- ---- a text refers to a manifest in one way

named_begins : (begins : Bool) (text digest : List ℕ) → (if begins then digest_of_digits text else None) ≡ Some digest → begins ≡ true
named_begins true text digest e = refl
named_begins false text digest e = cc e

-- a tag has no colon
no_algorithm : (text : List ℕ) → take 7 text ≡ algorithm → ¬ IsTag text
no_algorithm text e is =
    let whole : text ≡ algorithm ++ drop 7 text = sym (take-append-drop 7 text) ∙ ap (λ t. t ++ drop 7 text) e in
    let all : list_all is_tag_byte (algorithm ++ drop 7 text) ≡ true =
    list_all-from_AllPass is_tag_byte (algorithm ++ drop 7 text) (subst (AllPass is_tag_byte) whole (tag_bytes text is)) in
    cc all

no_tag : (text digest : List ℕ) → digest_named text ≡ Some digest → ¬ IsTag text
unfolding digest_named
no_tag text digest e =
    no_algorithm text ((bytes_eq-Decides (take 7 text) algorithm).0 (named_begins (bytes_eq (take 7 text) algorithm) (drop 7 text) digest e))

reference_one : (text : List ℕ) (reference other : Reference) → IsReference text reference → IsReference text other → reference ≡ other
reference_one text (references.Digest a) (references.Digest b) h k = cc (h, k)
reference_one text (references.Digest a) (references.Tag b) h k = absurd (no_tag text a h k.0)
reference_one text (references.Tag a) (references.Digest b) h k = absurd (no_tag text b k h.0)
reference_one text (references.Tag a) (references.Tag b) h k = ap references.Tag (h.1 ∙ sym k.1)

refers_one : (text : List ℕ) (bad : Reply) (found other : Result Reference Reply) → Refers text bad found → Refers text bad other → found ≡ other
refers_one text bad (Ok reference) (Ok other) h k = ap Ok (reference_one text reference other h k)
refers_one text bad (Ok reference) (Err other) h k = absurd (k.0 reference h)
refers_one text bad (Err reply) (Ok other) h k = absurd (h.0 other k)
refers_one text bad (Err reply) (Err other) h k = ap Err (h.1 ∙ sym k.1)

-- ---- a pushed manifest has one kind of media, or none

media_by_one : (values : List (List ℕ)) (body : List ℕ) (media other : Option Media) → AreMediaBy values body media → AreMediaBy values body other → media ≡ other
media_by_one [] body media other h k = h ∙ sym k
media_by_one (value ∷ values) body media other h k = h ∙ sym k

media_one : (fields : List Field) (body : List ℕ) (media other : Option Media) → AreMedia fields body media → AreMedia fields body other → media ≡ other
unfolding AreMedia
media_one fields body media other h k = media_by_one (values_of (codes "content-type") fields) body media other h k

-- ---- a manifest is given one thing

puts_one : (fields : List Field) (body : List ℕ) (reference : Result Reference Reply) (given other : CallOrRefusal) → IsPutCall fields body reference given → IsPutCall fields body reference other → given ≡ other
puts_one fields body (Err reply) given other h k = h ∙ sym k
puts_one fields body (Ok reference) given other (inl h) (inl k) = h.1 ∙ sym k.1
puts_one fields body (Ok reference) given other (inl h) (inr (le, media, are, e)) = let above = h.0 in absurd (omega arith)
puts_one fields body (Ok reference) given other (inr (le, media, are, e)) (inl k) = let above = k.0 in absurd (omega arith)
puts_one fields body (Ok reference) given other (inr (le, media, are, e)) (inr (most, more, be, f)) =
    e ∙ ap (λ (m : Option Media). Ok (calls.PutManifest reference m body)) (media_one fields body media more are be) ∙ sym f

call_one : (call : Reference → Call) (text : List ℕ) (bad : Reply) (given other : CallOrRefusal)
    → (r : Result Reference Reply) × Refers text bad r × (given ≡ on_reference call r)
    → (r : Result Reference Reply) × Refers text bad r × (other ≡ on_reference call r) → given ≡ other
call_one call text bad given other (r, h, e) (s, k, f) = e ∙ ap (on_reference call) (refers_one text bad r s h k) ∙ sym f

manifest_one : (method : Method) (text : List ℕ) (fields : List Field) (body : List ℕ) (given other : CallOrRefusal)
    → IsManifestCall method text fields body given → IsManifestCall method text fields body other → given ≡ other
manifest_one Get text fields body given other h k = call_one calls.GetManifest text (refusal ManifestUnknown) given other h k
manifest_one HeadMethod text fields body given other h k = call_one calls.HeadManifest text (refusal ManifestUnknown) given other h k
manifest_one Delete text fields body given other h k = call_one calls.DeleteManifest text (refusal ManifestUnknown) given other h k
manifest_one Put text fields body given other (r, h, e) (s, k, f) =
    puts_one fields body s given other (subst (λ x. IsPutCall fields body x given) (refers_one text (refusal ManifestInvalid) r s h k) e) f
manifest_one Post text fields body given other h k = h ∙ sym k
manifest_one Patch text fields body given other h k = h ∙ sym k
manifest_one Other text fields body given other h k = h ∙ sym k

-- ---- so is an upload

from_one : (text from other : Option (List ℕ)) → IsFrom text from → IsFrom text other → from ≡ other
from_one None from other h k = h ∙ sym k
from_one (Some text) None None h k = refl
from_one (Some text) None (Some name) h k = absurd (h k.0)
from_one (Some text) (Some name) None h k = absurd (k h.0)
from_one (Some text) (Some name) (Some other) h k = ap Some (h.1 ∙ sym k.1)

-- two numbers have two texts
same_number : (id other : ℕ) → id < 2 ^ 64 → other < 2 ^ 64 → upload_text id ≡ upload_text other → id ≡ other
same_number id other a b e =
    let first = rw e at (decode_sized-upload_text id) in
    let second = decode_sized-upload_text other in
    let same : to_be_bytes w64 id ≡ to_be_bytes w64 other = cc (first, second) in
    sym (from_be_bytes-to_be_bytes_8 id a) ∙ ap (from_be_bytes w64) same ∙ from_be_bytes-to_be_bytes_8 other b

id_one : (text : List ℕ) (id other : Option ℕ) → IsId text id → IsId text other → id ≡ other
id_one text None None h k = refl
id_one text None (Some other) h k = absurd (h other k.0 k.1)
id_one text (Some id) None h k = absurd (k id h.0 h.1)
id_one text (Some id) (Some other) h k = ap Some (same_number id other h.0 k.0 (sym h.1 ∙ k.1))

-- ---- and each form of a path

is_call_one : (form : Form) (text : List ℕ) (head : Head) (body : List ℕ) (given other : CallOrRefusal) → IsCall form text head body given → IsCall form text head body other → given ≡ other
is_call_one forms.Base text head body given other h k = h ∙ sym k
is_call_one forms.Tags text head body given other h k = h ∙ sym k
is_call_one forms.Referrers text head body given other h k = h ∙ sym k
is_call_one forms.Manifest text head body given other h k = manifest_one (method_of head.method) text head.fields body given other h k
is_call_one forms.Uploads text head body given other (from, is, e) (more, are, f) =
    let same : from ≡ more = from_one (in_query head (codes "from")) from more is are in
    e ∙ ap (λ (x : Option (List ℕ)). post_call (method_of head.method) (in_query head (codes "mount")) x (in_query head (codes "digest")) body) same ∙ sym f
is_call_one forms.Upload text head body given other (id, is, e) (more, are, f) =
    let same : id ≡ more = id_one text id more is are in
    e ∙ ap (λ (x : Option ℕ). upload_call (method_of head.method) x (range_of head.fields) (in_query head (codes "digest")) body) same ∙ sym f
is_call_one forms.Blob text head body given other h k = h ∙ sym k

names_one : (form : Form) (segments : List (List ℕ)) (name other : Option (List ℕ)) → Names form segments name → Names form segments other → name ≡ other
names_one forms.Base segments name other h k = h ∙ sym k
names_one forms.Tags segments name other h k = h.0 ∙ sym k.0
names_one forms.Referrers segments name other h k = h.0 ∙ sym k.0
names_one forms.Manifest segments name other h k = h.0 ∙ sym k.0
names_one forms.Uploads segments name other h k = h.0 ∙ sym k.0
names_one forms.Upload segments name other h k = h.0 ∙ sym k.0
names_one forms.Blob segments name other h k = h.0 ∙ sym k.0

-- ---- and each message

form_one : (form : Form) (segments : List (List ℕ)) (text : List ℕ) (head : Head) (body : List ℕ) (routed other : Routed)
    → RoutesPath form segments text head body routed → RoutesPath form segments text head body other → routed ≡ other
form_one form segments text head body routed other (inl h) (inl k) = h.1 ∙ sym k.1
form_one form segments text head body routed other (inl h) (inr (name, named, given, call_is, e)) = absurd (h.0 name named)
form_one form segments text head body routed other (inr (name, named, given, call_is, e)) (inl k) = absurd (k.0 name named)
form_one form segments text head body routed other (inr (name, named, given, call_is, e)) (inr (more, names, said, says, f)) =
    e
    ∙ ap (λ (n : Option (List ℕ)). routed_as n (is_hop head.fields) given) (names_one form segments name more named names)
    ∙ ap (routed_as more (is_hop head.fields)) (is_call_one form text head body given said call_is says)
    ∙ sym f

not_both : (target : List ℕ) (form : Form) (segments : List (List ℕ)) (text : List ℕ) → HasNoPath target → AllByRecursion IsUtf8 (segments_of target)
    → ¬ IsPath (segments_of target) form segments text
not_both target form segments text (inl none) all is = none all
not_both target form segments text (inr none) all is = none form segments text is

pub routes_one : (head : Head) (body : List ℕ) (routed other : Routed) → Routes head body routed → Routes head body other → routed ≡ other
routes_one head body routed other (inl h) (inl k) = h.1 ∙ sym k.1
routes_one head body routed other (inl h) (inr (all, form, segments, text, is, r)) = absurd (not_both head.target form segments text h.0 all is)
routes_one head body routed other (inr (all, form, segments, text, is, r)) (inl k) = absurd (not_both head.target form segments text k.0 all is)
routes_one head body routed other (inr (all, form, segments, text, is, h)) (inr (every, shape, more, words, are, k)) =
    let one = path_one (segments_of head.target) form shape segments more text words is are in
    let there : RoutesPath form segments text head body other =
    subst (λ f. RoutesPath f segments text head body other) (sym one.0)
    (subst (λ p. RoutesPath shape p text head body other) (sym one.1) (subst (λ t. RoutesPath shape more t head body other) (sym one.2) k)) in
    form_one form segments text head body routed other h there

-- what is answered is the only outcome
pub answer_one : (head : Head) (body : List ℕ) (result : Result Routed AllocError) (other : Routed) → IfOk result (Routes head body) → Routes head body other
    → IfOk result (λ routed. routed ≡ other)
answer_one head body result other h k = if_ok result (Routes head body) (λ routed. routed ≡ other) (λ routed is. routes_one head body routed other is k) h

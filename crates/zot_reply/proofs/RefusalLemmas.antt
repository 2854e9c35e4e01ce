-- What is seen of refusals: which code they have, and which detail.
use Rattle.std.proofs.Common.{◌≡◌, ℕ, zero, suc, ◌+◌, ◌*◌, ◌<◌, ◌≤◌, ◌^◌, ◌==◌, Bool, true, not, ◌&&◌, inl, inr, List, [], ◌∷◌, length, replicate, Some, None, refl, sym, ap, ◌∙◌, arith, slice_index, lit<, ◌≢◌, false, ◌++◌, ap₂, subst}
use Rattle.hex.specs.Hex.{encode_with}
use Rattle.json.specs.Print.{escape_byte, escape}
use Rattle.std.proofs.lemmas.Bool.Decides.{nat_tests}
use Rattle.std.proofs.lemmas.Bool.{and_parts}
use Rattle.std.proofs.lemmas.Fmt.{decimal_injective}
use Rattle.std.proofs.lemmas.List.{append_assoc, length-append}
use Rattle.std.specs.Fmt.{decimal}
use Rattle.std.specs.Prelude.{codes}
use Rattle.zot_digest.specs.Digest.{IsDigest, digest_text}
use Rattle.zot_model.specs.Codes as kinds
use Rattle.zot_model.specs.Codes.{DetailKind, IsOfKind, code_text, detail_kind, message_text, status_of, HasDetail}
use Rattle.zot_model.specs.Fits.{IsAmong, codes_of, IsRefusalOf}
use Rattle.zot_model.specs.Refusals.{refusal_with}
use Rattle.zot_model.specs.Values.{IsRealDetail, IsReal}
use Rattle.zot_model.specs.declared.call.Call.TheVariants as calls
use Rattle.zot_model.specs.declared.call.Call.{Call}
use Rattle.zot_model.specs.declared.code.Code.TheVariants.{BlobUnknown}
use Rattle.zot_model.specs.declared.code.Code.{Code}
use Rattle.zot_model.specs.declared.detail.Detail.TheVariants as details
use Rattle.zot_model.specs.declared.detail.Detail.{Detail}
use Rattle.zot_model.specs.declared.reply.Reply.TheVariants as replies
use Rattle.zot_model.specs.declared.reply.Reply.{Reply}
use Rattle.zot_reply.proofs.FieldLemmas.{fields_of}
use Rattle.zot_reply.proofs.ValueLemmas.{finds_id, finds_size, refusal_says, same_digest}
use Rattle.zot_reply.specs.Details.{FindsDigest, IsDetailFrom, detail_front}
use Rattle.zot_reply.specs.Reading.{seen_in, Seen}
use Rattle.zot_spell.proofs.AlikeLemmas.{unseen_size, differ_plain, digest_length}
use Rattle.zot_spell.proofs.CutLemmas.{cut_front, same_long}
use Rattle.zot_spell.proofs.PlainLemmas.{IsPlain, plain_digest, plain_text}
use Rattle.zot_spell.specs.Alike.{IsDetail, AreDetailsAlike, AreSizesAlike, AreAlike}
use Rattle.zot_spell.specs.Bodies.{detail_text, error_body, errors_value}
use Rattle.zot_spell.specs.Fields.{allow_field, length_fields, upload_fields}
use Rattle.zot_spell.specs.Heads.{field_of, length_field_of, name_text, type_fields, value_in}
use Rattle.zot_spell.specs.Spelling.{parts_of, shown_body, all_fields, refusal_fields}
use Rattle.zot_spell.specs.declared.field_name.FieldName.TheVariants as names

pub real_detail : (detail : Detail) → IsRealDetail detail → IsDetail detail
real_detail (details.Missing digest) h = h
real_detail (details.Differ wanted found) h = h
real_detail detail h = tt

-- ---- the sizes of bodies

abbrev zeros : List ℕ
zeros = replicate 32 0

zero_at : (n i : ℕ) → slice_index (replicate n 0) i < 256
zero_at zero i = omega arith
zero_at (suc n) zero = omega arith
zero_at (suc n) (suc i) = zero_at n i

are_zeros : IsDigest zeros
are_zeros = record { long = refl; bytes = zero_at 32 }

-- a detail whose text is as long as that of each detail of the kind
abbrev sample : DetailKind → Detail
sample kinds.Missing = details.Missing zeros
sample kinds.Differ = details.Differ zeros zeros
sample _ = details.None

-- how many bytes the body of a refusal with a detail of its kind has
abbrev pub body_size : Code → ℕ
body_size code = length (error_body code (sample (detail_kind code)))

pub has_size : (code : Code) (kind : DetailKind) (detail : Detail) → IsOfKind kind detail → IsDetail detail → length (error_body code detail) ≡ length (error_body code (sample kind))
unfolding error_body detail_text
has_size code kinds.Nothing details.None h is = refl
has_size code kinds.Missing (details.Missing digest) h is = unseen_size code (details.Missing digest) (details.Missing zeros) is are_zeros tt
has_size code kinds.Differ (details.Differ wanted found) h is = unseen_size code (details.Differ wanted found) (details.Differ zeros zeros) is (are_zeros, are_zeros) tt
has_size code kinds.Session (details.Session id size) h is = refl
has_size code kinds.Reading detail h is = rw h refl
has_size code kinds.Methods (details.Allow which) h is = refl
has_size code kind detail h is = absurd h

pub size_small : (code : Code) → body_size code < 2 ^ 64
unfolding error_body errors_value detail_text code_text message_text escape_byte digest_text encode_with
size_small BlobUnknown = lit< tt
size_small code = lit< tt

-- ---- the codes of a call differ in what is seen of them

-- what is seen of a code in any case
abbrev number_of : Code → ℕ
number_of code = status_of code + 1000 * body_size code

abbrev is_new : ℕ → List Code → Bool
is_new seen [] = true
is_new seen (code ∷ codes) = not (number_of code == seen) && is_new seen codes

abbrev pub are_distinct : List Code → Bool
are_distinct [] = true
are_distinct (code ∷ codes) = is_new (number_of code) codes && are_distinct codes

unequal : (a b : ℕ) → not (a == b) ≡ true → a ≡ b → ⊥
unequal a b h e = grind (arith, nat_tests)

new_differs : (seen : ℕ) (codes : List Code) (code : Code) → is_new seen codes ≡ true → IsAmong codes code → number_of code ≡ seen → ⊥
new_differs seen [] code h among e = absurd among
new_differs seen (other ∷ codes) code h (inl s) e = unequal (number_of other) seen (and_parts (not (number_of other == seen)) (is_new seen codes) h).0 (sym (ap number_of s) ∙ e)
new_differs seen (other ∷ codes) code h (inr among) e = new_differs seen codes code (and_parts (not (number_of other == seen)) (is_new seen codes) h).1 among e

pub one_code : (codes : List Code) (a b : Code) → are_distinct codes ≡ true → IsAmong codes a → IsAmong codes b → number_of a ≡ number_of b → a ≡ b
one_code [] a b h i j e = absurd i
one_code (code ∷ codes) a b h (inl s) (inl t) e = s ∙ sym t
one_code (code ∷ codes) a b h (inl s) (inr j) e = absurd (new_differs (number_of code) codes b (and_parts (is_new (number_of code) codes) (are_distinct codes) h).0 j (sym e ∙ ap number_of s))
one_code (code ∷ codes) a b h (inr i) (inl t) e = absurd (new_differs (number_of code) codes a (and_parts (is_new (number_of code) codes) (are_distinct codes) h).0 i (e ∙ ap number_of t))
one_code (code ∷ codes) a b h (inr i) (inr j) e = one_code codes a b (and_parts (is_new (number_of code) codes) (are_distinct codes) h).1 i j e

pub distinct_codes : (call : Call) → are_distinct (codes_of call) ≡ true
unfolding error_body errors_value detail_text code_text message_text escape_byte digest_text encode_with
distinct_codes (calls.Post mount None body) = refl
distinct_codes (calls.Post mount (Some digest) body) = refl
distinct_codes (calls.Patch None range body) = refl
distinct_codes (calls.Patch (Some id) None body) = refl
distinct_codes (calls.Patch (Some id) (Some range) body) = refl
distinct_codes (calls.Finish None range digest body) = refl
distinct_codes (calls.Finish (Some id) None digest body) = refl
distinct_codes (calls.Finish (Some id) (Some range) digest body) = refl
distinct_codes call = refl

-- ---- statuses of refusals

pub high_status : (code : Code) → (400 ≤ status_of code) × (status_of code < 1000)
high_status BlobUnknown = (omega arith, omega arith)
high_status code = (omega arith, omega arith)

-- ---- bodies with a detail

-- what stands after a detail's text
abbrev detail_back : Code → List ℕ
detail_back code = codes "\",\"message\":\"" ++ (escape (message_text code) ++ codes "\"}]}")

code_plain : (code : Code) → escape (code_text code) ≡ code_text code
unfolding code_text escape_byte
code_plain BlobUnknown = refl
code_plain code = refl

pub front_pieces : (code : Code) (rest : List ℕ) → detail_front code ++ rest ≡ codes "{\"errors\":[{\"code\":\"" ++ (code_text code ++ (codes "\",\"detail\":\"" ++ rest))
unfolding detail_front
front_pieces code rest = simp append_assoc

nested : (code t m d n q e f g : List ℕ)
    → (((code ++ q) ++ (d ++ ((t ++ q) ++ (n ++ ((m ++ q) ++ e))))) ++ f) ++ g ≡ code ++ ((q ++ d) ++ (t ++ ((q ++ n) ++ (m ++ (q ++ (e ++ (f ++ g)))))))
nested code t m d n q e f g = simp append_assoc

-- the body of a refusal with a detail of this text
detail_place : (code : Code) (detail : Detail) (t : List ℕ) → detail_text detail ≡ Some t → IsPlain t → error_body code detail ≡ detail_front code ++ (t ++ detail_back code)
unfolding error_body errors_value detail_front escape_byte
detail_place code detail t e plain =
    rw (e, code_plain code, plain_text t plain)
    (ap (λ (s : List ℕ). codes "{\"errors\":[{\"code\":\"" ++ s) (nested (code_text code) t (escape (message_text code)) (codes ",\"detail\":\"") (codes ",\"message\":\"") (34 ∷ []) (125 ∷ []) (93 ∷ []) (125 ∷ []))
    ∙ sym (front_pieces code (t ++ detail_back code)))

missing_place : (code : Code) (digest : List ℕ) → IsDigest digest → error_body code (details.Missing digest) ≡ detail_front code ++ (digest_text digest ++ detail_back code)
unfolding detail_text
missing_place code digest is = detail_place code (details.Missing digest) (digest_text digest) refl (plain_digest digest is)

differ_place : (code : Code) (wanted found : List ℕ) → IsDigest wanted → IsDigest found
    → error_body code (details.Differ wanted found) ≡ detail_front code ++ (codes "expected " ++ (digest_text wanted ++ (codes " found " ++ (digest_text found ++ detail_back code))))
unfolding detail_text
differ_place code wanted found w f =
    detail_place code (details.Differ wanted found) (codes "expected " ++ digest_text wanted ++ codes " found " ++ digest_text found) refl (differ_plain wanted found w f) ∙ simp append_assoc

-- the same, from the digest that was found on
found_place : (code : Code) (wanted found : List ℕ) → IsDigest wanted → IsDigest found
    → error_body code (details.Differ wanted found) ≡ detail_front code ++ ((codes "expected " ++ (digest_text wanted ++ codes " found ")) ++ (digest_text found ++ detail_back code))
found_place code wanted found w f = differ_place code wanted found w f ∙ simp append_assoc

found_at : (wanted : List ℕ) → IsDigest wanted → length (codes "expected " ++ (digest_text wanted ++ codes " found ")) ≡ 87
found_at wanted is = simp length-append (omega (arith, digest_length wanted is))

-- ---- what is seen of a detail is read as its values

-- the digest at its place in a body is found there, and any in a body that isn't shown
finds_digest : (head : Bool) (code : Code) (body front digest rest : List ℕ) (place : ℕ) → length front ≡ place → IsDigest digest → body ≡ detail_front code ++ (front ++ (digest_text digest ++ rest)) → FindsDigest code (shown_body head body) place digest
unfolding shown_body detail_front
finds_digest true code body front digest rest place l is e = λ f d r m real h. cc h
finds_digest false code body front digest rest place l is e = λ f d r m real h.
    let whole = cut_front (detail_front code) (f ++ (digest_text d ++ r)) (front ++ (digest_text digest ++ rest)) (sym h ∙ e) in
    let text = same_long f front (digest_text d ++ r) (digest_text digest ++ rest) (m ∙ sym l) whole in
    same_digest d digest real is (same_long (digest_text d) (digest_text digest) r rest (digest_length d real ∙ sym (digest_length digest is)) text.1).0

pub detail_read : (name : List ℕ) (code : Code) (detail : Detail) (head close : Bool) → IsRealDetail detail → IsDetailFrom code (seen_in name (refusal_with code detail) head close) detail
unfolding parts_of
detail_read name code (details.Missing digest) head close real = finds_digest head code _ [] digest (detail_back code) 0 refl real (missing_place code digest real)
detail_read name code (details.Differ wanted found) head close real = (
  finds_digest head code _ (codes "expected ") wanted (codes " found " ++ (digest_text found ++ detail_back code)) 9 refl real.0 (differ_place code wanted found real.0 real.1),
  finds_digest head code _ (codes "expected " ++ (digest_text wanted ++ codes " found ")) found (detail_back code) 87 (found_at wanted real.0) real.1 (found_place code wanted found real.0 real.1),
)
detail_read name code (details.Session id size) head close real =
    let seen = seen_in name (refusal_with code (details.Session id size)) head close in
    let says = refusal_says name (status_of code) code id size head close in
    (finds_id seen id real.0 says.0, finds_size seen size real.1 says.1)
detail_read name code detail head close real = tt

-- ---- what is read is alike to the detail that is seen

pub details_self : (head : Bool) (detail : Detail) → AreDetailsAlike head detail detail
details_self true (details.Session id size) = (refl, refl)
details_self false (details.Session id size) = (refl, refl)
details_self true (details.Allow which) = refl
details_self true detail = tt
details_self false detail = refl

missing_alike : (name : List ℕ) (code : Code) (d f : List ℕ) (head close : Bool) → IsDigest d → IsDetailFrom code (seen_in name (refusal_with code (details.Missing d)) head close) (details.Missing f) → AreDetailsAlike head (details.Missing d) (details.Missing f)
unfolding parts_of shown_body
missing_alike name code d f true close real read = tt
missing_alike name code d f false close real read = ap details.Missing (read [] d (detail_back code) refl real (missing_place code d real))

differ_alike : (name : List ℕ) (code : Code) (w f v g : List ℕ) (head close : Bool) → IsDigest w → IsDigest f → IsDetailFrom code (seen_in name (refusal_with code (details.Differ w f)) head close) (details.Differ v g)
    → AreDetailsAlike head (details.Differ w f) (details.Differ v g)
unfolding parts_of shown_body
differ_alike name code w f v g true close x y read = tt
differ_alike name code w f v g false close x y read =
    ap₂ details.Differ (read.0 (codes "expected ") w (codes " found " ++ (digest_text f ++ detail_back code)) refl x (differ_place code w f x y))
    (read.1 (codes "expected " ++ (digest_text w ++ codes " found ")) f (detail_back code) (found_at w x) y (found_place code w f x y))

session_alike : (head : Bool) (i j n m : ℕ) → i ≡ j → AreSizesAlike n m → AreDetailsAlike head (details.Session i n) (details.Session j m)
session_alike true i j n m e s = (e, s)
session_alike false i j n m e s = (e, s)

of_kind : (name : List ℕ) (code : Code) (kind : DetailKind) (a b : Detail) (head close : Bool) → kind ≢ kinds.Methods → IsOfKind kind a → IsRealDetail a → IsOfKind kind b
    → IsDetailFrom code (seen_in name (refusal_with code a) head close) b → AreDetailsAlike head a b
of_kind name code kinds.Nothing details.None details.None head close other h real k read = details_self head details.None
of_kind name code kinds.Missing (details.Missing d) (details.Missing f) head close other h real k read = missing_alike name code d f head close real read
of_kind name code kinds.Differ (details.Differ w f) (details.Differ v g) head close other h real k read = differ_alike name code w f v g head close real.0 real.1 read
of_kind name code kinds.Session (details.Session i n) (details.Session j m) head close other h real k read =
    let says = refusal_says name (status_of code) code i n head close in
    session_alike head i j n m (read.0 i real.0 says.0) (read.1 n real.1 says.1)
of_kind name code kinds.Reading a b head close other h real k read = rw (h, k) (details_self head (details.Allow _))
of_kind name code kinds.Methods a b head close other h real k read = absurd (other refl)
of_kind name code kinds.Nothing details.None b head close other h real k read = absurd k
of_kind name code kinds.Missing (details.Missing d) b head close other h real k read = absurd k
of_kind name code kinds.Differ (details.Differ w f) b head close other h real k read = absurd k
of_kind name code kinds.Session (details.Session i n) b head close other h real k read = absurd k
of_kind name code kind a b head close other h real k read = absurd h

no_methods : (code : Code) → detail_kind code ≢ kinds.Methods
no_methods BlobUnknown e = cc e
no_methods code e = cc e

-- a detail that is read beside a code is alike to the one that is seen
pub detail_alike : (name : List ℕ) (code : Code) (a b : Detail) (head close : Bool) → HasDetail code a → IsRealDetail a → HasDetail code b → IsDetailFrom code (seen_in name (refusal_with code a) head close) b → AreDetailsAlike head a b
detail_alike name code a b head close h real k read = of_kind name code (detail_kind code) a b head close (no_methods code) h real k read

-- ---- refusals that are seen alike

not_content : (status : ℕ) → 400 ≤ status → (status == 204) ≡ false
not_content status high = grind (arith, nat_tests)

size_in : (name : List ℕ) (status : ℕ) (code : Code) (detail : Detail) (close : Bool) → (status == 204) ≡ false
    → value_in (name_text names.ContentLength) (fields_of name (replies.Refused status code detail) close) ≡ Some (decimal (length (error_body code detail)))
unfolding parts_of all_fields refusal_fields upload_fields allow_field type_fields length_fields length_field_of field_of name_text
size_in name status code details.None close h = rw h refl
size_in name status code detail close h = rw h refl

size_seen : (name : List ℕ) (code : Code) (detail : Detail) (close : Bool) → HasDetail code detail → IsRealDetail detail → value_in (name_text names.ContentLength) (fields_of name (refusal_with code detail) close) ≡ Some (decimal (body_size code))
size_seen name code detail close has real =
    size_in name (status_of code) code detail close (not_content (status_of code) (high_status code).0) ∙ ap (λ (n : ℕ). Some (decimal n)) (has_size code (detail_kind code) detail has (real_detail detail real))

same_code : (name : List ℕ) (call : Call) (a b : Code) (x y : Detail) (head c k : Bool) → IsAmong (codes_of call) a → IsAmong (codes_of call) b → HasDetail a x → HasDetail b y → IsRealDetail x → IsRealDetail y
    → seen_in name (refusal_with a x) head c ≡ seen_in name (refusal_with b y) head k → a ≡ b
unfolding parts_of
same_code name call a b x y head c k i j h g d f e =
    let sizes : Some (decimal (body_size a)) ≡ Some (decimal (body_size b)) = sym (size_seen name a x c h d) ∙ ap (λ (s : Seen). value_in (name_text names.ContentLength) s.fields) e ∙ size_seen name b y k g f in
    let size = decimal_injective (body_size a) (body_size b) (size_small a) (size_small b) (cc sizes) in
    one_code (codes_of call) a b (distinct_codes call) i j (ap₂ (λ (n m : ℕ). n + 1000 * m) (ap (λ (s : Seen). s.status) e) size)

pub refusals_alike : (name : List ℕ) (call : Call) (a b : Reply) (head c k : Bool) → IsRefusalOf call a → IsRefusalOf call b → IsReal a → IsReal b → seen_in name a head c ≡ seen_in name b head k → AreAlike head a b
refusals_alike name call (replies.Refused n a x) (replies.Refused m b y) head c k h g d f e =
    let seen : seen_in name (refusal_with a x) head c ≡ seen_in name (refusal_with b y) head k =
    ap (λ (s : ℕ). seen_in name (replies.Refused s a x) head c) (sym h.1) ∙ e ∙ ap (λ (s : ℕ). seen_in name (replies.Refused s b y) head k) g.1 in
    let code : a ≡ b = same_code name call a b x y head c k h.0 g.0 h.2 g.2 d f seen in
    let read = subst (λ (r : Code). IsDetailFrom r (seen_in name (refusal_with a x) head c) y) (sym code) (subst (λ (s : Seen). IsDetailFrom b s y) (sym seen) (detail_read name b y head k f)) in
    let has = subst (λ (r : Code). HasDetail r y) (sym code) g.2 in
    (h.1 ∙ ap status_of code ∙ sym g.1, code, real_detail x d, real_detail y f, detail_alike name a x y head c h.2 d has read)
refusals_alike name call (replies.Refused n a x) b head c k h g d f e = absurd g
refusals_alike name call a b head c k h g d f e = absurd h

-- Every request that a message gives is valid, and every refusal is one that a message may have.
use Rattle.std.proofs.Common.{◌≡◌, ◌≢◌, ℕ, ◌<◌, ◌≤◌, Bool, true, false, Some, None, Ok, Err, inl, inr, List, [], ◌∷◌, length, refl, sym, subst, arith}
use Rattle.std.specs.Prelude.{Option, Result, IfOk, IfSome, ⊤, ◌&&◌, if◌then◌else◌, nat_le, codes}
use Rattle.std.proofs.Math.Nat.{pow-le-pow_right}
use Rattle.std.proofs.lemmas.Bool.Decides.{nat_tests}
use Rattle.std.proofs.lemmas.Int.Digits.{digits_value-lt}
use Rattle.std.specs.Char.{is_ascii_digit, digit_value}
use Rattle.std.specs.List.{list_all, list_any}
use Rattle.std.specs.Str.Parse.{AllDigits, digits_value}
use Rattle.std.specs.declared.alloc.AllocError.{AllocError}
use Rattle.zot_digest.specs.Digest.{digest_named}
use Rattle.zot_head.specs.declared.field.Field.{Field}
use Rattle.zot_head.specs.declared.head.Head.{Head}
use Rattle.zot_head.specs.Fields.{length_of, values_of}
use Rattle.zot_media.specs.declared.reference.Reference.{Reference}
use Rattle.zot_model.specs.declared.call.Call.{Call}
use Rattle.zot_model.specs.declared.call.Call.TheVariants as calls
use Rattle.zot_model.specs.declared.code.Code.TheVariants.{DigestInvalid, ManifestInvalid, ManifestUnknown}
use Rattle.zot_model.specs.declared.reply.Reply.{Reply}
use Rattle.zot_model.specs.declared.span.Span.{Span}
use Rattle.zot_model.specs.Calls.{is_head}
use Rattle.zot_model.specs.Fits.{Declines}
use Rattle.zot_model.specs.Refusals.{refusal}
use Rattle.zot_model.specs.Valid.{IsShort, IsSpan, IsValid, IsValidCall, body_limit}
use Rattle.zot_route.specs.Calls.{CallOrRefusal, IsManifestCall, IsPutCall, Refers, base_call, blob_call, digest_or, finish_of, needed_digest, on_digest, on_reference, optional_digest, page_of, patch_of, post_call, post_of, range_or, referrers_call, some_digest, some_number, tags_call, upload_call}
use Rattle.zot_route.specs.Lines.{range_by, range_of, some_span, span_by, span_of}
use Rattle.zot_route.specs.Routed.{IfRefused, IfRequest}
use Rattle.zot_route.specs.Methods.{hides_body, method_of}
use Rattle.zot_route.specs.Routes.{HidesAlike, IsCall, Names, Routes, RoutesPath, routed_as}
use Rattle.zot_route.proofs.RouteLemmas.{if_ok}
use Rattle.zot_route.specs.declared.form.Form.{Form}
use Rattle.zot_route.specs.declared.form.Form.TheVariants as forms
use Rattle.zot_route.specs.declared.routed.Routed.{Routed}
use Rattle.zot_route.specs.declared.method.Method.{Method}
use Rattle.zot_route.specs.declared.method.Method.TheVariants.{Delete, Get, Head as HeadMethod, Other, Patch, Post, Put}

-- a call of a repository that is valid, where the body keeps its limit, and of HEAD where that is the method; or a refusal that a message may have
abbrev pub IsFine : Method → List ℕ → CallOrRefusal → Type 0
IsFine method body (Ok call) = (length body ≤ body_limit → IsValidCall call) × (call ≢ calls.Base) × (is_head call ≡ hides_body method)
IsFine method body (Err reply) = Declines reply

-- a refusal that a message may have, if it is one
abbrev pub IsDeclined : {X : Type 0} → Result X Reply → Type 0
IsDeclined (Ok x) = ⊤
IsDeclined (Err reply) = Declines reply

digest_fine : (method : Method) (body : List ℕ) (call : List ℕ → Call) (found : Option (List ℕ)) → ((digest : List ℕ) → IsFine method body (Ok (call digest))) → IsFine method body (on_digest call (digest_or found))
digest_fine method body call (Some digest) h = h digest
digest_fine method body call None h = (refl, tt)

blob_fine : (body : List ℕ) (method : Method) (text : List ℕ) → IsFine method body (blob_call method text)
blob_fine body Get text = digest_fine Get body calls.GetBlob (digest_named text) (λ d. ((λ le. tt), (λ e. cc e), refl))
blob_fine body HeadMethod text = digest_fine HeadMethod body calls.HeadBlob (digest_named text) (λ d. ((λ le. tt), (λ e. cc e), refl))
blob_fine body Delete text = digest_fine Delete body calls.DeleteBlob (digest_named text) (λ d. ((λ le. tt), (λ e. cc e), refl))
blob_fine body Put text = inr (inl (refl, tt))
blob_fine body Post text = inr (inl (refl, tt))
blob_fine body Patch text = inr (inl (refl, tt))
blob_fine body Other text = inr (inl (refl, tt))

referrers_fine : (body : List ℕ) (method : Method) (text : List ℕ) (filter : Option (List ℕ)) → IsFine method body (referrers_call method text filter)
referrers_fine body Get text filter = digest_fine Get body (λ d. calls.Referrers d filter) (digest_named text) (λ d. ((λ le. tt), (λ e. cc e), refl))
referrers_fine body HeadMethod text filter = inr (inl (refl, tt))
referrers_fine body Put text filter = inr (inl (refl, tt))
referrers_fine body Post text filter = inr (inl (refl, tt))
referrers_fine body Patch text filter = inr (inl (refl, tt))
referrers_fine body Delete text filter = inr (inl (refl, tt))
referrers_fine body Other text filter = inr (inl (refl, tt))

-- ---- numbers and ranges

both : (a b : Bool) → (a && b) ≡ true → (a ≡ true) × (b ≡ true)
both true b e = (refl, e)
both false b e = cc e

digit_small : (c : ℕ) → is_ascii_digit c ≡ true → digit_value c < 10
digit_small c e = grind (arith, nat_tests)

all_digits : (value : List ℕ) → list_all is_ascii_digit value ≡ true → AllDigits 10 value
all_digits [] e = tt
all_digits (c ∷ value) e = let k = both (is_ascii_digit c) (list_all is_ascii_digit value) e in (digit_small c k.0, all_digits value k.1)

le_of : (m n : ℕ) → nat_le m n ≡ true → m ≤ n
le_of m n e = grind (arith, nat_tests)

short_by : (value : List ℕ) (n : ℕ) (a b d : Bool) → (if a && b && d then Some (digits_value 10 value) else None) ≡ Some n
    → (b ≡ true → length value ≤ 18) → (d ≡ true → list_all is_ascii_digit value ≡ true) → IsShort n
short_by value n true true true e f g =
    let same : digits_value 10 value ≡ n = cc e in
    let below = digits_value-lt 10 value (all_digits value (g refl)) in
    let most = pow-le-pow_right {n = 10} (omega arith) {i = length value} {j = 18} (f refl) in
    omega (arith, same, below, most)
short_by value n true true false e f g = cc e
short_by value n true false d e f g = cc e
short_by value n false b d e f g = cc e

short_number : (value : List ℕ) (n : ℕ) → length_of value ≡ Some n → IsShort n
unfolding length_of
short_number value n e = short_by value n _ (nat_le (length value) 18) (list_all is_ascii_digit value) e (le_of (length value) 18) (λ h. h)

page_fine : (body : List ℕ) (last : Option (List ℕ)) (found : Option ℕ) → ((n : ℕ) → found ≡ Some n → IsShort n) → IsFine Get body (page_of last (some_number found))
page_fine body last (Some n) h = ((λ le. h n refl), (λ e. cc e), refl)
page_fine body last None h = inr (inr (refl, tt))

tags_fine : (body : List ℕ) (method : Method) (n last : Option (List ℕ)) → IsFine method body (tags_call method n last)
tags_fine body Get None last = ((λ le. tt), (λ e. cc e), refl)
tags_fine body Get (Some text) last = page_fine body last (length_of text) (short_number text)
tags_fine body HeadMethod n last = inr (inl (refl, tt))
tags_fine body Put n last = inr (inl (refl, tt))
tags_fine body Post n last = inr (inl (refl, tt))
tags_fine body Patch n last = inr (inl (refl, tt))
tags_fine body Delete n last = inr (inl (refl, tt))
tags_fine body Other n last = inr (inl (refl, tt))

span_if : (t : Bool) (start end : ℕ) (span : Span) → (if t then Some (record { start = start; end = end }) else None) ≡ Some span → (t ≡ true → start ≤ end) → IsShort end → IsSpan span
span_if true start end span e f g =
    let here : Span = record { start = start; end = end } in
    let same : here ≡ span = cc e in
    subst IsSpan same (record { end = g; ordered = f refl })
span_if false start end span e f g = cc e

span_by_fine : (start end : Option ℕ) (span : Span) → ((n : ℕ) → end ≡ Some n → IsShort n) → span_by start end ≡ Some span → IsSpan span
span_by_fine (Some start) (Some end) span h e = span_if (nat_le start end) start end span e (le_of start end) (h end refl)
span_by_fine (Some start) None span h e = cc e
span_by_fine None end span h e = cc e

span_fine : (text : List ℕ) (span : Span) → span_of text ≡ Some span → IsSpan span
unfolding span_of
span_fine text span e = span_by_fine _ _ span (short_number _) e

-- a range that is one, or a refusal
abbrev IsRange : Option (Option Span) → Type 0
IsRange None = ⊤
IsRange (Some range) = IfSome range IsSpan

some_fine : (found : Option Span) → ((span : Span) → found ≡ Some span → IsSpan span) → IsRange (some_span found)
some_fine None h = tt
some_fine (Some span) h = h span refl

range_fine : (values : List (List ℕ)) → IsRange (range_by values)
range_fine [] = tt
range_fine (value ∷ values) = some_fine (span_of value) (span_fine value)

fields_fine : (fields : List Field) → IsRange (range_of fields)
unfolding range_of
fields_fine fields = range_fine (values_of (codes "content-range") fields)

-- ---- uploads

needed_fine : (found : Option (List ℕ)) → IsDeclined (digest_or found)
needed_fine (Some digest) = tt
needed_fine None = (refl, tt)

there_fine : (found : Option (List ℕ)) → IsDeclined (some_digest (digest_or found))
there_fine (Some digest) = tt
there_fine None = (refl, tt)

optional_fine : (text : Option (List ℕ)) → IsDeclined (optional_digest text)
optional_fine None = tt
optional_fine (Some text) = there_fine (digest_named text)

text_fine : (text : Option (List ℕ)) → IsDeclined (needed_digest text)
text_fine None = (refl, tt)
text_fine (Some text) = needed_fine (digest_named text)

post_by : (from : Option (List ℕ)) (body : List ℕ) (mount digest : Result (Option (List ℕ)) Reply) → IsDeclined mount → IsDeclined digest
    → IsFine Post body (post_of from body mount digest)
post_by from body (Err reply) digest h k = h
post_by from body (Ok mount) (Err reply) h k = k
post_by from body (Ok mount) (Ok digest) h k = ((λ le. le), (λ e. cc e), refl)

post_fine : (method : Method) (mount from digest : Option (List ℕ)) (body : List ℕ) → IsFine method body (post_call method mount from digest body)
post_fine Post mount from digest body = post_by from body (optional_digest mount) (optional_digest digest) (optional_fine mount) (optional_fine digest)
post_fine Get mount from digest body = inr (inl (refl, tt))
post_fine HeadMethod mount from digest body = inr (inl (refl, tt))
post_fine Put mount from digest body = inr (inl (refl, tt))
post_fine Patch mount from digest body = inr (inl (refl, tt))
post_fine Delete mount from digest body = inr (inl (refl, tt))
post_fine Other mount from digest body = inr (inl (refl, tt))

patch_by : (id : Option ℕ) (body : List ℕ) (range : Option (Option Span)) → IsRange range → IsFine Patch body (patch_of id body (range_or range))
patch_by id body None h = (refl, tt)
patch_by id body (Some range) h = ((λ le. (h, le)), (λ e. cc e), refl)

finish_by : (id : Option ℕ) (body : List ℕ) (digest : Result (List ℕ) Reply) (range : Option (Option Span)) → IsDeclined digest → IsRange range
    → IsFine Put body (finish_of id body digest (range_or range))
finish_by id body (Err reply) range k h = k
finish_by id body (Ok digest) None k h = (refl, tt)
finish_by id body (Ok digest) (Some range) k h = ((λ le. (h, le)), (λ e. cc e), refl)

upload_fine : (method : Method) (id : Option ℕ) (range : Option (Option Span)) (digest : Option (List ℕ)) (body : List ℕ) → IsRange range
    → IsFine method body (upload_call method id range digest body)
upload_fine Get id range digest body h = ((λ le. tt), (λ e. cc e), refl)
upload_fine Patch id range digest body h = patch_by id body range h
upload_fine Put id range digest body h = finish_by id body (needed_digest digest) range (text_fine digest) h
upload_fine HeadMethod id range digest body h = inr (inl (refl, tt))
upload_fine Post id range digest body h = inr (inl (refl, tt))
upload_fine Delete id range digest body h = inr (inl (refl, tt))
upload_fine Other id range digest body h = inr (inl (refl, tt))

-- ---- manifests

bad_if : (colon : Bool) (other : Reply) → Declines other → Declines (if colon then refusal DigestInvalid else other)
bad_if true other h = (refl, tt)
bad_if false other h = h

refers_fine : (text : List ℕ) (other : Reply) (reference : Result Reference Reply) → Declines other → Refers text other reference → IsDeclined reference
refers_fine text other (Ok reference) h k = tt
refers_fine text other (Err reply) h k = subst Declines (sym k.1) (bad_if (list_any _ text) other h)

on_fine : (method : Method) (body : List ℕ) (call : Reference → Call) (reference : Result Reference Reply) → ((r : Reference) → IsFine method body (Ok (call r))) → IsDeclined reference → IsFine method body (on_reference call reference)
on_fine method body call (Ok reference) h k = h reference
on_fine method body call (Err reply) h k = k

puts_fine : (fields : List Field) (body : List ℕ) (reference : Result Reference Reply) (given : CallOrRefusal) → IsDeclined reference → IsPutCall fields body reference given → IsFine Put body given
puts_fine fields body (Err reply) given h e = subst (IsFine Put body) (sym e) h
puts_fine fields body (Ok reference) given h (inl k) = subst (IsFine Put body) (sym k.1) (refl, tt)
puts_fine fields body (Ok reference) given h (inr (le, media, are, e)) = subst (IsFine Put body) (sym e) ((λ short. le), (λ f. cc f), refl)

manifest_fine : (method : Method) (text : List ℕ) (fields : List Field) (body : List ℕ) (given : CallOrRefusal) → IsManifestCall method text fields body given → IsFine method body given
manifest_fine Get text fields body given (r, h, e) = subst (IsFine Get body) (sym e) (on_fine Get body calls.GetManifest r (λ x. ((λ le. tt), (λ f. cc f), refl)) (refers_fine text (refusal ManifestUnknown) r (refl, tt) h))
manifest_fine HeadMethod text fields body given (r, h, e) = subst (IsFine HeadMethod body) (sym e) (on_fine HeadMethod body calls.HeadManifest r (λ x. ((λ le. tt), (λ f. cc f), refl)) (refers_fine text (refusal ManifestUnknown) r (refl, tt) h))
manifest_fine Delete text fields body given (r, h, e) = subst (IsFine Delete body) (sym e) (on_fine Delete body calls.DeleteManifest r (λ x. ((λ le. tt), (λ f. cc f), refl)) (refers_fine text (refusal ManifestUnknown) r (refl, tt) h))
manifest_fine Put text fields body given (r, h, k) = puts_fine fields body r given (refers_fine text (refusal ManifestInvalid) r (refl, tt) h) k
manifest_fine Post text fields body given e = subst (IsFine Post body) (sym e) (inr (inl (refl, tt)))
manifest_fine Patch text fields body given e = subst (IsFine Patch body) (sym e) (inr (inl (refl, tt)))
manifest_fine Other text fields body given e = subst (IsFine Other body) (sym e) (inr (inl (refl, tt)))

-- ---- messages

-- the request is valid, where the body keeps its limit, a refusal is one that a message may have, and the request's call is one of HEAD where the message's method is
abbrev IsSound : Head → List ℕ → Routed → Type 0
IsSound head body routed = (length body ≤ body_limit → IfRequest routed IsValid) × IfRefused routed Declines × IfRequest routed (HidesAlike head)

named_sound : (head : Head) (body : List ℕ) (name : Option (List ℕ)) (text : List ℕ) (hop : Bool) (given : CallOrRefusal) → name ≡ Some text → IsFine (method_of head.method) body given
    → IsSound head body (routed_as name hop given)
named_sound head body name text hop (Ok call) e h = ((λ le. record { named = ((λ f. cc (e, f)), λ f. absurd (h.1 f)); call = h.0 le }), tt, λ some. h.2)
named_sound head body name text hop (Err reply) e h = ((λ le. tt), h, tt)

base_sound : (head : Head) (body : List ℕ) (method : Method) (name : Option (List ℕ)) (hop : Bool) → name ≡ None → IsSound head body (routed_as name hop (base_call method))
base_sound head body Get name hop e = ((λ le. record { named = ((λ f. refl), λ f. e); call = tt }), tt, λ some. absurd (some e))
base_sound head body HeadMethod name hop e = ((λ le. record { named = ((λ f. refl), λ f. e); call = tt }), tt, λ some. absurd (some e))
base_sound head body Put name hop e = ((λ le. tt), inr (inl (refl, tt)), tt)
base_sound head body Post name hop e = ((λ le. tt), inr (inl (refl, tt)), tt)
base_sound head body Patch name hop e = ((λ le. tt), inr (inl (refl, tt)), tt)
base_sound head body Delete name hop e = ((λ le. tt), inr (inl (refl, tt)), tt)
base_sound head body Other name hop e = ((λ le. tt), inr (inl (refl, tt)), tt)

is_call_sound : (form : Form) (segments : List (List ℕ)) (text : List ℕ) (head : Head) (body : List ℕ) (name : Option (List ℕ)) (hop : Bool) (given : CallOrRefusal)
    → Names form segments name → IsCall form text head body given → IsSound head body (routed_as name hop given)
is_call_sound forms.Base segments text head body name hop given n h = subst (λ a. IsSound head body (routed_as name hop a)) (sym h) (base_sound head body (method_of head.method) name hop n)
is_call_sound forms.Tags segments text head body name hop given n h = named_sound head body name _ hop given n.0 (subst (IsFine (method_of head.method) body) (sym h) (tags_fine body (method_of head.method) _ _))
is_call_sound forms.Referrers segments text head body name hop given n h = named_sound head body name _ hop given n.0 (subst (IsFine (method_of head.method) body) (sym h) (referrers_fine body (method_of head.method) text _))
is_call_sound forms.Manifest segments text head body name hop given n h = named_sound head body name _ hop given n.0 (manifest_fine (method_of head.method) text head.fields body given h)
is_call_sound forms.Uploads segments text head body name hop given n (from, is, e) = named_sound head body name _ hop given n.0 (subst (IsFine (method_of head.method) body) (sym e) (post_fine (method_of head.method) _ from _ body))
is_call_sound forms.Upload segments text head body name hop given n (id, is, e) =
    named_sound head body name _ hop given n.0 (subst (IsFine (method_of head.method) body) (sym e) (upload_fine (method_of head.method) id (range_of head.fields) _ body (fields_fine head.fields)))
is_call_sound forms.Blob segments text head body name hop given n h = named_sound head body name _ hop given n.0 (subst (IsFine (method_of head.method) body) (sym h) (blob_fine body (method_of head.method) text))

path_sound : (form : Form) (segments : List (List ℕ)) (text : List ℕ) (head : Head) (body : List ℕ) (routed : Routed) → RoutesPath form segments text head body routed → IsSound head body routed
path_sound form segments text head body routed (inl (none, e)) = subst (IsSound head body) (sym e) ((λ le. tt), (refl, tt), tt)
path_sound form segments text head body routed (inr (name, named, given, call_is, e)) = subst (IsSound head body) (sym e) (is_call_sound form segments text head body name _ given named call_is)

pub routes_sound : (head : Head) (body : List ℕ) (routed : Routed) → Routes head body routed → IsSound head body routed
routes_sound head body routed (inl (none, e)) = subst (IsSound head body) (sym e) ((λ le. tt), inl (refl, tt), tt)
routes_sound head body routed (inr (all, form, segments, text, is, h)) = path_sound form segments text head body routed h

-- so is what is answered
pub answer_valid : (head : Head) (body : List ℕ) (result : Result Routed AllocError) → IfOk result (Routes head body) → length body ≤ body_limit
    → IfOk result (λ routed. IfRequest routed IsValid)
answer_valid head body result h le = if_ok result (Routes head body) (λ routed. IfRequest routed IsValid) (λ routed is. (routes_sound head body routed is).0 le) h

pub answer_declines : (head : Head) (body : List ℕ) (result : Result Routed AllocError) → IfOk result (Routes head body) → IfOk result (λ routed. IfRefused routed Declines)
answer_declines head body result h = if_ok result (Routes head body) (λ routed. IfRefused routed Declines) (λ routed is. (routes_sound head body routed is).1) h

pub answer_hides : (head : Head) (body : List ℕ) (result : Result Routed AllocError) → IfOk result (Routes head body) → IfOk result (λ routed. IfRequest routed (HidesAlike head))
answer_hides head body result h = if_ok result (Routes head body) (λ routed. IfRequest routed (HidesAlike head)) (λ routed is. (routes_sound head body routed is).2) h

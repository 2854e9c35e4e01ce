-- No other replies to a request share a spelling, and the reply that bytes are is found.
use Rattle.std.proofs.Common.{◌≡◌, inl, inr, ℕ, ◌<◌, ◌≤◌, Bool, List, ◌++◌, take, drop, Some, refl, sym, ap, subst, ◌∙◌, arith, [], Option, None, rules}
use Rattle.http.specs.StatusCode.{IsStatusCode}
use Rattle.std.proofs.lemmas.List.{append_assoc}
use Rattle.std.specs.Prelude.{IfOk, IfSome, IsSome, MatchOption, Result, Ok, Err, unwrap_or}
use Rattle.zot_model.specs.Calls.{is_head}
use Rattle.zot_model.specs.Codes.{HasDetail, status_of}
use Rattle.zot_model.specs.Fits.{Fits, FitsCall, IsAmong, IsRefusalOf, IsSuccessOf}
use Rattle.zot_model.specs.Refusals.{refusal_with}
use Rattle.zot_model.specs.Values.{IsReal, IsRealDetail, HasValues}
use Rattle.zot_model.specs.declared.call.Call.{Call}
use Rattle.zot_model.specs.declared.code.Code.TheVariants.{BlobUnknown}
use Rattle.zot_model.specs.declared.code.Code.{Code}
use Rattle.zot_model.specs.declared.detail.Detail.{Detail}
use Rattle.zot_model.specs.declared.reply.Reply.TheVariants as replies
use Rattle.zot_model.specs.declared.reply.Reply.{Reply}
use Rattle.zot_model.specs.declared.request.Request.{Request}
use Rattle.zot_names.specs.Name.{IsName}
use Rattle.zot_reply.proofs.FieldLemmas.{all_are, fields_of, same_fields, are_fields}
use Rattle.zot_reply.proofs.RefusalLemmas.{detail_alike, details_self, high_status, real_detail, refusals_alike}
use Rattle.zot_reply.proofs.TextLemmas.{free_by_test, name_free}
use Rattle.zot_reply.proofs.ValueLemmas.{says, success_alike, success_back, seen_says}
use Rattle.zot_reply.specs.Details.{IsDetailFrom}
use Rattle.zot_reply.specs.Reading.{Says, Seen, seen_in, seen_with, IsSuccessFrom, IsWanted, Spells, seen_of}
use Rattle.zot_reply.specs.declared.refusals.TheConstants.{CODES}
use Rattle.zot_spell.proofs.AlikeLemmas.{alike_bytes}
use Rattle.zot_spell.proofs.CutLemmas.{cut_front}
use Rattle.zot_spell.proofs.FitLemmas.{has_status, not_success, session_status}
use Rattle.zot_spell.proofs.SplitLemmas.{digits_at, same_digits}
use Rattle.zot_spell.specs.Alike.{AreAlike}
use Rattle.zot_spell.specs.Fields.{status_line}
use Rattle.zot_spell.specs.Heads.{fields_text, AreFields, IsFree}
use Rattle.zot_spell.specs.Spelling.{head_of, head_text, name_in, parts_of, reply_bytes, shown_body, spelled}
use Rattle.zot_spell.specs.declared.field.Field.{Field}
use Rattle.zot_spell.specs.declared.split.SplitReply.{SplitReply}

-- ---- the same is seen of the same bytes

pub seen_same : (n m : ℕ) (f g : List Field) (b d : List ℕ) → n ≡ m → f ≡ g → b ≡ d → seen_with n f b ≡ seen_with m g d
seen_same n m f g b d x y z = rw (x, y, z) refl

bytes_are : (name : List ℕ) (reply : Reply) (head close : Bool) → spelled (parts_of name reply) head close ≡ status_line (parts_of name reply).status ++ (fields_text (fields_of name reply close) ++ shown_body head (parts_of name reply).body)
unfolding spelled head_of head_text
bytes_are name reply head close = append_assoc (status_line (parts_of name reply).status) (fields_text (fields_of name reply close)) (shown_body head (parts_of name reply).body)

same_seen : (name : List ℕ) (a b : Reply) (head c k : Bool) → IsStatusCode (parts_of name a).status → IsStatusCode (parts_of name b).status → IsReal a → IsReal b
    → spelled (parts_of name a) head c ≡ spelled (parts_of name b) head k → seen_in name a head c ≡ seen_in name b head k
same_seen name a b head c k s t x y e =
    let p = parts_of name a in
    let q = parts_of name b in
    let v = fields_text (fields_of name a c) ++ shown_body head p.body in
    let w = fields_text (fields_of name b k) ++ shown_body head q.body in
    let lines : status_line p.status ++ v ≡ status_line q.status ++ w = sym (bytes_are name a head c) ∙ e ∙ bytes_are name b head k in
    let status : p.status ≡ q.status = same_digits p.status q.status s.1 t.1 (sym (digits_at p.status v) ∙ ap (λ (l : List ℕ). take 3 (drop 9 l)) lines ∙ digits_at q.status w) in
    let rest = cut_front (status_line p.status) v w (lines ∙ ap (λ (n : ℕ). status_line n ++ w) (sym status)) in
    let fields = same_fields name (fields_of name a c) (fields_of name b k) (shown_body head p.body) (shown_body head q.body) (all_are name a c x) (all_are name b k y) rest in
    seen_same p.status q.status (fields_of name a c) (fields_of name b k) (shown_body head p.body) (shown_body head q.body) status fields.0 fields.1

-- ---- successes and refusals

success_low : (name : List ℕ) (call : Call) (reply : Reply) → IsSuccessOf call reply → (parts_of name reply).status < 300
unfolding parts_of
success_low name call (replies.Session id size status) h = elim (session_status call id size status h) [
  | inl e ↦ omega (arith, e)
  | inr e ↦ omega (arith, e)
]
success_low name call (replies.Refused status code detail) h = absurd (not_success call status code detail h)
success_low name call reply h = omega arith

refusal_high : (name : List ℕ) (call : Call) (reply : Reply) → IsRefusalOf call reply → 400 ≤ (parts_of name reply).status
unfolding parts_of
refusal_high name call (replies.Refused status code detail) h = let high = high_status code in omega (arith, high.0, h.1)
refusal_high name call reply h = absurd h

-- a success isn't seen as a refusal is
apart : (name : List ℕ) (call : Call) (a b : Reply) (head c k : Bool) → IsSuccessOf call a → IsRefusalOf call b → seen_in name a head c ≡ seen_in name b head k → ⊥
apart name call a b head c k h g e = let status = ap (λ (s : Seen). s.status) e in omega (arith, success_low name call a h, refusal_high name call b g, status)

seen_alike : (name : List ℕ) (call : Call) (a b : Reply) (c k : Bool) → FitsCall call a → FitsCall call b → IsReal a → IsReal b → seen_in name a (is_head call) c ≡ seen_in name b (is_head call) k → AreAlike (is_head call) a b
seen_alike name call a b c k (inl h) (inl g) x y e =
    let other = subst (λ (s : Seen). Says name (is_head call) s b) (sym e) (says name b (is_head call) k) in
    (success_alike name call _ a b h x (says name a (is_head call) c) (success_back name call _ b g y other)).0
seen_alike name call a b c k (inl h) (inr g) x y e = absurd (apart name call a b (is_head call) c k h g e)
seen_alike name call a b c k (inr h) (inl g) x y e = absurd (apart name call b a (is_head call) k c g h (sym e))
seen_alike name call a b c k (inr h) (inr g) x y e = refusals_alike name call a b (is_head call) c k h g x y e

pub alone : (request : Request) (a b : Reply) (c k : Bool) → Fits request a → Fits request b → IsReal a → IsReal b
    → reply_bytes (Some request) a (is_head request.call) c ≡ reply_bytes (Some request) b (is_head request.call) k → AreAlike (is_head request.call) a b
unfolding reply_bytes
alone request a b c k h g x y e =
    let name = name_in (Some request) in
    seen_alike name request.call a b c k h g x y (same_seen name a b (is_head request.call) c k (has_status (Some request) name a h) (has_status (Some request) name b g) x y e)

-- ---- a reply is like itself

pub alike_self : (head : Bool) (reply : Reply) → IsReal reply → AreAlike head reply reply
alike_self head (replies.Session id size status) is = (refl, refl, refl)
alike_self head (replies.Tags tags None n) is = (refl, tt)
alike_self head (replies.Tags tags (Some next) n) is = (refl, (refl, refl))
alike_self head (replies.Refused status code detail) is = (refl, refl, real_detail detail is, real_detail detail is, details_self head detail)
alike_self head reply is = refl

-- the bytes of a reply are those of one that is like it and fits
spells_alike : (request : Request) (bytes : List ℕ) (a b : Reply) → AreAlike (is_head request.call) a b → Fits request b → Spells request a bytes → Spells request b bytes
spells_alike request bytes a b h fits s = record { fits = fits; close = s.close; is = s.is ∙ alike_bytes (Some request) a b (is_head request.call) s.close h }

pub some_none : {A : Type 0} (found : Option A) → IsSome found → found ≡ None → ⊥
some_none found h e = let none = subst (λ o. IsSome o) e h in cc none

-- ---- the parts of the bytes

-- a name that is there has no CR
named : (name : Option (List ℕ)) → IfSome name IsName → IsFree 13 (unwrap_or name [])
named None is = free_by_test 13 [] refl
named (Some name) is = name_free name is

pub if_ok : {E A : Type 0} {P Q : A → Type 0} (result : Result A E) → IfOk result P → ((a : A) → P a → Q a) → IfOk result Q
if_ok (Ok a) h f = f a h
if_ok (Err e) h f = tt

in_match : {A : Type 0} {P Q : A → Type 0} (found : Option A) → ((a : A) → P a → Q a) → MatchOption found ⊥ P → MatchOption found ⊥ Q
in_match (Some a) f m = f a m
in_match None f m = m

-- bytes that are a reply are split, and what is seen of them is what is seen of it
pub wanted : (request : Request) (bytes : List ℕ) (found : Option SplitReply) → HasValues request
    → ((status : ℕ) (fields : List Field) (body : List ℕ) → IsStatusCode status → AreFields fields → bytes ≡ head_text status fields ++ body
    → MatchOption found ⊥ (λ split. (split.status ≡ status) × (split.fields.items ≡ fields) × (split.body.now ≡ body)))
    → (reply : Reply) → IsReal reply → Spells request reply bytes → MatchOption found ⊥ (λ split. IsWanted request reply bytes (seen_of split))
unfolding reply_bytes spelled head_of
wanted request bytes found values apart reply real s =
    let name = name_in (Some request) in
    let p = parts_of name reply in
    let fields = fields_of name reply s.close in
    let body = shown_body (is_head request.call) p.body in
    let are = are_fields name fields (named request.name values.name) (all_are name reply s.close real) in
    in_match found (λ split m. record { real = real; spells = s; is_seen = (s.close, seen_same split.status p.status split.fields.items fields split.body.now body m.0 m.1 m.2) })
    (apart p.status fields body (has_status (Some request) name reply s.fits) are s.is)

-- a reply that is found is like each one that the bytes are
pub found_alike : (request : Request) (bytes : List ℕ) (reply found : Reply) → IsReal reply → IsReal found → Spells request reply bytes → Spells request found bytes → AreAlike (is_head request.call) reply found
found_alike request bytes reply found x y s t = alone request reply found s.close t.close s.fits t.fits x y (sym s.is ∙ t.is)

-- ---- successes

-- the bytes of a success are those of what is read of it
pub success_found : (request : Request) (bytes : List ℕ) (seen : Seen) (found reply : Reply) → IsSuccessFrom (name_in (Some request)) request.call seen found → IsSuccessOf request.call reply → IsWanted request reply bytes seen
    → Spells request found bytes
success_found request bytes seen found reply read success w =
    let alike = success_alike (name_in (Some request)) request.call seen reply found success w.real (seen_says (name_in (Some request)) (is_head request.call) reply seen w.is_seen) read in
    spells_alike request bytes reply found alike.0 (inl alike.1) w.spells

-- ---- refusals

every : (code : Code) → IsAmong CODES code
every BlobUnknown = inl refl
every code = search rules depth 30

by_code : (request : Request) (bytes : List ℕ) (seen : Seen) (reply : Reply) (P : Type 0) → ((code : Code) (detail : Detail) → HasDetail code detail → IsWanted request (refusal_with code detail) bytes seen → P)
    → IsRefusalOf request.call reply → IsWanted request reply bytes seen → P
by_code request bytes seen (replies.Refused status code detail) P f h w = f code detail h.2 (subst (λ (s : ℕ). IsWanted request (replies.Refused s code detail) bytes seen) h.1 w)
by_code request bytes seen reply P f h w = absurd h

pub refusal_found : (request : Request) (bytes : List ℕ) (seen : Seen) (codes : List Code) (found : Option Reply) → codes ≡ CODES → ((reply : Reply) → IsSuccessOf request.call reply → IsWanted request reply bytes seen → ⊥)
    → ((code : Code) (detail : Detail) → IsAmong codes code → HasDetail code detail → IsWanted request (refusal_with code detail) bytes seen → IsSome found) → (reply : Reply) → IsWanted request reply bytes seen → IsSome found
refusal_found request bytes seen codes found all none h reply w =
    elim w.spells.fits [
      | inl success ↦ absurd (none reply success w)
      | inr refusal ↦ by_code request bytes seen reply (IsSome found) (λ code detail. h code detail (subst (λ (c : List Code). IsAmong c code) (sym all) (every code))) refusal w
    ]

refusal_fits : (request : Request) (code : Code) (detail said : Detail) (status : ℕ) → status ≡ status_of code → HasDetail code said → Fits request (refusal_with code detail) → Fits request (replies.Refused status code said)
refusal_fits request code detail said status s has (inl k) = absurd (not_success request.call (status_of code) code detail k)
refusal_fits request code detail said status s has (inr k) = inr (k.0, s, has)

-- the bytes of a refusal are those of what is read of it
pub refusal_spells : (request : Request) (code : Code) (bytes : List ℕ) (seen : Seen) (detail said : Detail) (status : ℕ) → status ≡ status_of code → IsRealDetail said → HasDetail code said → IsDetailFrom code seen said
    → HasDetail code detail → IsWanted request (refusal_with code detail) bytes seen → Spells request (replies.Refused status code said) bytes
refusal_spells request code bytes seen detail said status s real has read is w =
    let from = subst (λ (z : Seen). IsDetailFrom code z said) w.is_seen.1 read in
    let alike = detail_alike (name_in (Some request)) code detail said (is_head request.call) w.is_seen.0 is w.real has from in
    spells_alike request bytes (refusal_with code detail) (replies.Refused status code said) (sym s, refl, real_detail detail w.real, real_detail said real, alike) (refusal_fits request code detail said status s has w.spells.fits) w.spells

-- A digest's text names that digest, and no other text does.
use Rattle.std.proofs.Common.{◌≡◌, ℕ, zero, suc, ◌+◌, ◌*◌, ◌/◌, ◌%◌, ◌<◌, ◌≤◌, ◌==◌, Bool, true, false, not, ◌&&◌, ◌||◌, inl, inr, List, [], ◌∷◌, ◌++◌, length, take, drop, slice_index, Option, Some, None, Result, Ok, Err, refl, sym, ap, ◌∙◌, arith, cond}
use Rattle.std.specs.Prelude.{IfOk, OnErr, ◌≢◌}
use Rattle.std.specs.List.{list_any}
use Rattle.std.specs.Result.{result_ok, result_unwrap_or}
use Rattle.std.specs.Str.{bytes_eq}
use Rattle.std.proofs.lemmas.Bool.{and_parts, cases_lt, eqb-true}
use Rattle.std.proofs.lemmas.Slice.Eq.{bytes_eq-Decides}
use Rattle.std.proofs.lemmas.List.{get_or_past, take-append-drop}
use Rattle.hex.specs.Hex.{decode_pairs, decode_sized, digit_or_error, hex_digit_value, encode_lower, encode_with, lower_digits, pair_value, value_at, ◌>>=◌}
use Rattle.hex.specs.declared.error.FromHexError.{FromHexError}
use Rattle.hex.proofs.HexLemmas.{decode_of-encode_lower, decode_of-even, decode_pairs-ok, decode_sized-ok, decode_sized-twice, length-encode_with}
use Rattle.zot_digest.specs.Digest.{IsDigest, algorithm, digest_named, digest_of_digits, digest_text, is_upper}

-- a test of each number below n, which computes
abbrev pub passes_below : (ℕ → Bool) → ℕ → Bool
passes_below test zero = true
passes_below test (suc n) = test n && passes_below test n

pub passes-at : (test : ℕ → Bool) (n k : ℕ) → passes_below test n ≡ true → k < n → test k ≡ true
passes-at test zero k h lt = absurd (omega arith)
passes-at test (suc n) k h lt =
    let parts = and_parts (test n) (passes_below test n) h in
    elim (cases_lt k n) [
      | inl below ↦ passes-at test n k parts.1 below
      | inr top ↦
          let e : k ≡ n = omega arith in
          rw e parts.0
    ]

-- whether a digit that isn't upper case is the lower-case digit of its value
abbrev reads_again : ℕ → Option ℕ → Bool
reads_again c None = true
reads_again c (Some v) = is_upper c || (slice_index lower_digits v == c)

not_true : (b : Bool) → not b ≡ true → b ≡ false
not_true true h = cc h
not_true false h = refl

no_digit_above : (c : ℕ) → 103 ≤ c → hex_digit_value c ≡ None
no_digit_above c h = grind arith

digit_known : (c v : ℕ) (o : Option ℕ) → o ≡ Some v → reads_again c o ≡ true → is_upper c ≡ false → slice_index lower_digits v ≡ c
digit_known c v None h r u = cc h
digit_known c v (Some w) h r u =
    let e : w ≡ v = cc h in
    let s : (is_upper c || (slice_index lower_digits w == c)) ≡ true = r in
    let t : (slice_index lower_digits w == c) ≡ true = rw u at s in
    rw (← e) (eqb-true _ _ t)

-- a digit's value names the digit again
digit_again : (c v : ℕ) → is_upper c ≡ false → hex_digit_value c ≡ Some v → slice_index lower_digits v ≡ c
digit_again c v u h =
    elim (cases_lt c 103) [
      | inl below ↦ digit_known c v (hex_digit_value c) h (passes-at (λ k. reads_again k (hex_digit_value k)) 103 c refl below) u
      | inr above ↦ cc (h, no_digit_above c (omega arith))
    ]

-- the value of a digit that read
value_read : (c i v : ℕ) (o : Option ℕ) → digit_or_error c i o ≡ Ok v → o ≡ Some v
value_read c i v (Some w) h = ap Some (ap (λ (r : Result ℕ FromHexError). result_unwrap_or r 0) h)
value_read c i v None h = cc h

bind_ok : {A B : Type 0} (r : Result A FromHexError) (f : A → Result B FromHexError) (y : B)
    → (r >>= f) ≡ Ok y → (x : A) × (r ≡ Ok x) × (f x ≡ Ok y)
bind_ok (Ok x) f y h = (x, refl, h)
bind_ok (Err e) f y h = cc h

or_false : (a b : Bool) → (a || b) ≡ false → (a ≡ false) × (b ≡ false)
or_false true b h = cc h
or_false false b h = (refl, h)

small_value : (c v : ℕ) → hex_digit_value c ≡ Some v → v < 16
small_value c v h = grind arith

-- pairs of digits with no upper case are the text of what they decode to
encode_again : (i : ℕ) (s bytes : List ℕ) → decode_pairs i s ≡ Ok bytes → list_any is_upper s ≡ false → encode_lower bytes ≡ s
unfolding decode_pairs encode_with
encode_again i [] bytes h u = let e : [] ≡ bytes = ap (λ (r : Result (List ℕ) FromHexError). result_unwrap_or r []) h in rw (← e) refl
encode_again i (a ∷ []) bytes h u = cc h
encode_again i (a ∷ b ∷ rest) bytes h u =
    let p0 = bind_ok (pair_value a b i) _ bytes h in
    let p1 = bind_ok (value_at a i) _ p0.0 p0.1 in
    let p2 = bind_ok (value_at b (i + 1)) _ p0.0 p1.2 in
    let p3 = bind_ok (decode_pairs (i + 2) rest) _ bytes p0.2 in
    let ua = or_false (is_upper a) (is_upper b || list_any is_upper rest) u in
    let ub = or_false (is_upper b) (list_any is_upper rest) ua.1 in
    let ih = encode_again (i + 2) rest p3.0 p3.1 ub.1 in
    let e : p0.0 ∷ p3.0 ≡ bytes = ap (λ (r : Result (List ℕ) FromHexError). result_unwrap_or r []) p3.2 in
    let va = value_read a i p1.0 (hex_digit_value a) p1.1 in
    let vb = value_read b (i + 1) p2.0 (hex_digit_value b) p2.1 in
    let sa = small_value a p1.0 va in
    let sb = small_value b p2.0 vb in
    let byte : p1.0 * 16 + p2.0 ≡ p0.0 = ap (λ (r : Result ℕ FromHexError). result_unwrap_or r 0) p2.2 in
    let high : p0.0 / 16 ≡ p1.0 = omega arith in
    let low : p0.0 % 16 ≡ p2.0 = omega arith in
    let da = digit_again a p1.0 ua.0 va in
    let db = digit_again b p2.0 ub.0 vb in
    rw (← e, high, low, da, db, ih) refl

-- no digit of the table is an upper-case letter
no_upper_digit : (d : ℕ) → is_upper (slice_index lower_digits d) ≡ false
no_upper_digit d =
    elim (cases_lt d 16) [
      | inl below ↦ not_true _ (passes-at (λ k. not (is_upper (slice_index lower_digits k))) 16 d refl below)
      | inr above ↦ rw (get_or_past lower_digits d 0 above) refl
    ]

no_upper_text : (bytes : List ℕ) → list_any is_upper (encode_lower bytes) ≡ false
unfolding encode_with
no_upper_text [] = refl
no_upper_text (b ∷ rest) = rw (no_upper_digit (b / 16), no_upper_digit (b % 16)) (no_upper_text rest)

ok_part : {A E : Type 0} (r : Result A E) (x : A) → result_ok r ≡ Some x → r ≡ Ok x
ok_part (Ok y) x h = cc h
ok_part (Err e) x h = cc h

-- the digits of a digest stand for it
digits_of_digest : (digest : List ℕ) → IsDigest digest → digest_of_digits (encode_lower digest) ≡ Some digest
unfolding digest_of_digits
digits_of_digest digest h =
    let long = length-encode_with lower_digits digest in
    let sized = decode_sized-twice (encode_lower digest) 32 (rw (long, h.long) refl) in
    rw (no_upper_text digest, sized, decode_of-encode_lower digest h.bytes) refl

chosen_second : (b : Bool) (o : Option (List ℕ)) (x : List ℕ) → cond b None o ≡ Some x → (b ≡ false) × (o ≡ Some x)
chosen_second true o x h = cc h
chosen_second false o x h = (refl, h)

chosen_first : (b : Bool) (o : Option (List ℕ)) (x : List ℕ) → cond b o None ≡ Some x → (b ≡ true) × (o ≡ Some x)
chosen_first true o x h = (refl, h)
chosen_first false o x h = cc h

-- digits that stand for a digest are its text's
digest_of_digits-some : (digits digest : List ℕ) → digest_of_digits digits ≡ Some digest → (digits ≡ encode_lower digest) × IsDigest digest
unfolding digest_of_digits
digest_of_digits-some digits digest h =
    let parts = chosen_second (list_any is_upper digits) (result_ok (decode_sized digits 32)) digest h in
    let sized = ok_part (decode_sized digits 32) digest parts.1 in
    let len = decode_sized-ok digits 32 digest sized in
    let even : length digits % 2 ≡ 0 = omega arith in
    let pairs : decode_pairs 0 digits ≡ Ok digest = sym (decode_of-even digits even) ∙ sym (decode_sized-twice digits 32 len) ∙ sized in
    let ok = decode_pairs-ok 0 digits digest pairs in
    let long : length digest ≡ 32 = omega (arith, ok.1, len) in
    (sym (encode_again 0 digits digest pairs parts.0), record { long = long; bytes = ok.2 })

-- the text of a digest names it
pub digest_named-digest_text : (digest : List ℕ) → IsDigest digest → digest_named (digest_text digest) ≡ Some digest
unfolding digest_named digest_text
digest_named-digest_text digest h = digits_of_digest digest h

-- a text that names a digest is that digest's text
pub named_is_text : (text digest : List ℕ) → digest_named text ≡ Some digest → (text ≡ digest_text digest) × IsDigest digest
unfolding digest_named digest_text
named_is_text text digest h =
    let parts = chosen_first (bytes_eq (take 7 text) algorithm) (digest_of_digits (drop 7 text)) digest h in
    let front = (bytes_eq-Decides (take 7 text) algorithm).0 parts.0 in
    let digits = digest_of_digits-some (drop 7 text) digest parts.1 in
    let whole : text ≡ take 7 text ++ drop 7 text = sym (take-append-drop 7 text) in
    (whole ∙ ap (λ x. x ++ drop 7 text) front ∙ ap (λ x. algorithm ++ x) digits.0, digits.1)

-- what a reader's answer says, where its value is the digest that the text names
pub read_from_named : {E : Type 0} (r : Result (List ℕ) E) (text : List ℕ) → result_ok r ≡ digest_named text → IfOk r (λ digest. text ≡ digest_text digest)
read_from_named (Ok digest) text h = (named_is_text text digest (sym h)).0
read_from_named (Err e) text h = tt

pub bad_from_named : {E : Type 0} (r : Result (List ℕ) E) (text : List ℕ) → result_ok r ≡ digest_named text
    → OnErr r ((digest : List ℕ) → IsDigest digest → text ≢ digest_text digest)
bad_from_named (Ok digest) text h = tt
bad_from_named (Err e) text h = λ digest is same. cc (h, ap digest_named same, digest_named-digest_text digest is)

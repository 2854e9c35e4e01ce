-- Digests are ordered as their texts.
use Rattle.std.proofs.Common.{◌≡◌, ℕ, suc, ◌+◌, ◌/◌, ◌%◌, ◌<◌, ◌==◌, List, [], ◌∷◌, slice_index, cond, nat_lt, refl, sym, ap, ◌∙◌, arith, Ordering}
use Rattle.std.specs.declared.cmp.Ordering.TheVariants.{Less, Equal, Greater}
use Rattle.std.specs.Ordering.{MatchOrdering, nat_cmp, ordering_then}
use Rattle.std.specs.Cmp.{nat_cmp_is, ranks}
use Rattle.std.specs.Cmp.Lexicographic.{slice_cmp}
use Rattle.std.proofs.lemmas.Bool.{eqb-true}
use Rattle.hex.specs.Hex.{IsBytes, encode_lower, encode_with, lower_digits}
use Rattle.zot_digest.proofs.DigestLemmas.{passes-at}
use Rattle.zot_digest.specs.Digest.{digest_text}

-- the digit of a value below 16
digit_value : (d : ℕ) → d < 16 → slice_index lower_digits d ≡ cond (nat_lt d 10) (d + 48) (d + 87)
digit_value d h = eqb-true _ _ (passes-at (λ k. slice_index lower_digits k == cond (nat_lt k 10) (k + 48) (k + 87)) 16 d refl h)

-- what ranks two numbers ranks two others that stand alike
ranked_alike : (r : Ordering) (x y a b : ℕ) → MatchOrdering r (x < y) (x ≡ y) (y < x) → (x < y → a < b) → (x ≡ y → a ≡ b) → (y < x → b < a)
    → MatchOrdering r (a < b) (a ≡ b) (b < a)
ranked_alike Less x y a b h f g k = f h
ranked_alike Equal x y a b h f g k = g h
ranked_alike Greater x y a b h f g k = k h

digits_rise : (i j : ℕ) → i < 16 → j < 16 → i < j → slice_index lower_digits i < slice_index lower_digits j
digits_rise i j hi hj lt = let ei = digit_value i hi in let ej = digit_value j hj in grind arith

-- two digits stand as their values do
digit_order : (i j : ℕ) → i < 16 → j < 16 → nat_cmp (slice_index lower_digits i) (slice_index lower_digits j) ≡ nat_cmp i j
digit_order i j hi hj =
    sym (nat_cmp_is (slice_index lower_digits i) (slice_index lower_digits j) (nat_cmp i j)
    (ranked_alike (nat_cmp i j) i j _ _ (ranks i j) (digits_rise i j hi hj) (λ e. ap (slice_index lower_digits) e) (digits_rise j i hj hi)))

then_assoc : (a b c : Ordering) → ordering_then (ordering_then a b) c ≡ ordering_then a (ordering_then b c)
then_assoc Less b c = refl
then_assoc Equal b c = refl
then_assoc Greater b c = refl

joined : (r s : Ordering) (x y : ℕ) → MatchOrdering r (x / 16 < y / 16) (x / 16 ≡ y / 16) (y / 16 < x / 16)
    → MatchOrdering s (x % 16 < y % 16) (x % 16 ≡ y % 16) (y % 16 < x % 16) → MatchOrdering (ordering_then r s) (x < y) (x ≡ y) (y < x)
joined Less s x y h k = omega arith
joined Equal Less x y h k = omega arith
joined Equal Equal x y h k = omega arith
joined Equal Greater x y h k = omega arith
joined Greater s x y h k = omega arith

-- two bytes stand as their two digits do
halves : (x y : ℕ) → ordering_then (nat_cmp (x / 16) (y / 16)) (nat_cmp (x % 16) (y % 16)) ≡ nat_cmp x y
halves x y = nat_cmp_is x y _ (joined (nat_cmp (x / 16) (y / 16)) (nat_cmp (x % 16) (y % 16)) x y (ranks (x / 16) (y / 16)) (ranks (x % 16) (y % 16)))

pair_order : (x y : ℕ) (rest : Ordering) → x < 256 → y < 256
    → ordering_then (nat_cmp (slice_index lower_digits (x / 16)) (slice_index lower_digits (y / 16)))
    (ordering_then (nat_cmp (slice_index lower_digits (x % 16)) (slice_index lower_digits (y % 16))) rest)
    ≡ ordering_then (nat_cmp x y) rest
pair_order x y rest hx hy =
    let high = digit_order (x / 16) (y / 16) (omega arith) (omega arith) in
    let low = digit_order (x % 16) (y % 16) (omega arith) (omega arith) in
    ap (λ o. ordering_then o (ordering_then (nat_cmp (slice_index lower_digits (x % 16)) (slice_index lower_digits (y % 16))) rest)) high
    ∙ ap (λ o. ordering_then (nat_cmp (x / 16) (y / 16)) (ordering_then o rest)) low
    ∙ sym (then_assoc (nat_cmp (x / 16) (y / 16)) (nat_cmp (x % 16) (y % 16)) rest)
    ∙ ap (λ o. ordering_then o rest) (halves x y)

hex_order : (a b : List ℕ) → IsBytes a → IsBytes b → slice_cmp nat_cmp (encode_lower a) (encode_lower b) ≡ slice_cmp nat_cmp a b
unfolding encode_with
hex_order [] [] ha hb = refl
hex_order [] (y ∷ b) ha hb = refl
hex_order (x ∷ a) [] ha hb = refl
hex_order (x ∷ a) (y ∷ b) ha hb =
    pair_order x y (slice_cmp nat_cmp (encode_lower a) (encode_lower b)) (ha 0) (hb 0)
    ∙ ap (λ o. ordering_then (nat_cmp x y) o) (hex_order a b (λ i. ha (suc i)) (λ i. hb (suc i)))

pub text_order : (a b : List ℕ) → IsBytes a → IsBytes b → slice_cmp nat_cmp (digest_text a) (digest_text b) ≡ slice_cmp nat_cmp a b
unfolding digest_text
text_order a b ha hb = hex_order a b ha hb

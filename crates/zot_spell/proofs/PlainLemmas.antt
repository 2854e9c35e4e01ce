-- Texts that JSON writes as they stand, digests among them.
use Rattle.std.proofs.Common.{◌≡◌, ◌≢◌, ℕ, suc, ◌/◌, ◌%◌, ◌<◌, ◌≤◌, ◌==◌, Bool, true, not, ◌&&◌, nat_le, List, [], ◌∷◌, ◌++◌, refl, arith, slice_index}
use Rattle.std.specs.Prelude.{⊤}
use Rattle.std.proofs.lemmas.Bool.Decides.{nat_tests}
use Rattle.hex.specs.Hex.{encode_with, lower_digits}
use Rattle.json.specs.Print.{escape, escape_byte}
use Rattle.zot_digest.proofs.DigestLemmas.{passes-at}
use Rattle.zot_digest.specs.Digest.{IsDigest, digest_text}

-- a byte that stands for itself in JSON's strings
abbrev pub IsPlainByte : ℕ → Type 0
IsPlainByte c = escape_byte c ≡ c ∷ []

-- a text of such bytes
abbrev pub IsPlain : List ℕ → Type 0
IsPlain [] = ⊤
IsPlain (c ∷ text) = IsPlainByte c × IsPlain text

pub plain_byte : (c : ℕ) → 32 ≤ c → c ≢ 34 → c ≢ 92 → IsPlainByte c
unfolding escape_byte
plain_byte c low quote slash = grind (arith, nat_tests)

pub plain_text : (text : List ℕ) → IsPlain text → escape text ≡ text
plain_text [] h = refl
plain_text (c ∷ text) h = rw (h.0, plain_text text h.1) refl

pub plain_append : (front text : List ℕ) → IsPlain front → IsPlain text → IsPlain (front ++ text)
plain_append [] text h k = k
plain_append (c ∷ front) text h k = (h.0, plain_append front text h.1 k)

-- ---- digests

abbrev is_plain_digit : ℕ → Bool
is_plain_digit k = nat_le 48 (slice_index lower_digits k) && not (slice_index lower_digits k == 92)

by_test : (c : ℕ) → (nat_le 48 c && not (c == 92)) ≡ true → IsPlainByte c
by_test c h = plain_byte c (grind (arith, nat_tests)) (grind (arith, nat_tests)) (grind (arith, nat_tests))

plain_digit : (k : ℕ) → k < 16 → IsPlainByte (slice_index lower_digits k)
plain_digit k lt = by_test (slice_index lower_digits k) (passes-at is_plain_digit 16 k refl lt)

plain_digits : (bytes : List ℕ) → ((i : ℕ) → slice_index bytes i < 256) → IsPlain (encode_with lower_digits bytes)
unfolding encode_with
plain_digits [] h = tt
plain_digits (b ∷ bytes) h =
    let small : b < 256 = h 0 in
    (plain_digit (b / 16) (omega arith), (plain_digit (b % 16) (omega arith), plain_digits bytes (λ i. h (suc i))))

pub plain_digest : (digest : List ℕ) → IsDigest digest → IsPlain (digest_text digest)
unfolding digest_text escape_byte
plain_digest digest is = (refl, (refl, (refl, (refl, (refl, (refl, (refl, plain_digits digest is.bytes)))))))

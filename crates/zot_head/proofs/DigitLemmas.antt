-- Digits in front of a list, and the number that they write.
use Rattle.std.proofs.Common.{◌≡◌, ◌≢◌, ◌&&◌, Some, None, ℕ, ◌+◌, ◌*◌, ◌^◌, ◌<◌, ◌≤◌, Bool, true, false, cond, ltb, leb, List, length, get_or, take, drop, refl, ap, ◌∙◌, arith, add-one}
use Rattle.std.proofs.Math.Nat.{pow-suc, pow-le-pow_right}
use Rattle.std.proofs.lemmas.Nat.{mul-add-lt}
use Rattle.std.proofs.lemmas.Bool.Decides.{nat_tests}
use Rattle.std.specs.List.{prefix_len}
use Rattle.std.specs.Prelude.{Option}
use Rattle.std.proofs.lemmas.List.{length-take, get_or-take}
use Rattle.std.proofs.lemmas.List.Sums.{prefix_len_passes}
use Rattle.std.proofs.lemmas.List.Folds.{length-prefix_len}
use Rattle.std.specs.Char.{is_ascii_hexdigit, digit_value}
use Rattle.std.specs.Str.Parse.{digits_value}
use Rattle.zot_head.specs.Chunked.{ends_size, hex_digits, size_of}

-- ---- digits

hex_digit_value : (b : ℕ) → is_ascii_hexdigit b ≡ true → digit_value b < 16
hex_digit_value b e = grind (arith, nat_tests)

-- one more digit stays below the next power
pub digit_more : (radix value digit at : ℕ) → value < radix ^ at → digit < radix → value * radix + digit < radix ^ (at + 1)
digit_more radix value digit at below small =
    rw (add-one, pow-suc radix at) (omega (arith, mul-add-lt value radix digit (radix ^ at) below small))

pub power_below : (radix at len : ℕ) → 0 < radix → at ≤ len → radix ^ len ≤ 2 ^ 64 → radix ^ at ≤ 2 ^ 64
power_below radix at len some le fits = omega (arith, pow-le-pow_right {n = radix} some le, fits)

-- ---- tests

le-ltb-true : (n : ℕ) → n ≢ 0 → ltb 0 n ≡ true
le-ltb-true n h = grind (arith, nat_tests)

leb-true : (n : ℕ) → n ≤ 16 → leb n 16 ≡ true
leb-true n h = grind (arith, nat_tests)

leb-false : (n : ℕ) → 16 < n → leb n 16 ≡ false
leb-false n h = grind (arith, nat_tests)

-- ---- the size on a chunk's line

module _ (line : List ℕ) (len : ℕ) (is : len ≡ length (hex_digits line)) where
  len_is : len ≡ prefix_len is_ascii_hexdigit line
  len_is = is ∙ length-prefix_len is_ascii_hexdigit line

  pub digits_are : take len line ≡ hex_digits line
  digits_are = ap (λ (n : ℕ). take n line) len_is

  pub digits_small : (k : ℕ) → k < length (take len line) → digit_value (get_or (take len line) k 0) < 16
  digits_small k lt =
      let within : k < len = omega (arith, lt, length-take len line) in
      let front : k < prefix_len is_ascii_hexdigit line = omega (arith, within, len_is) in
      rw (get_or-take len line k 0 within) (hex_digit_value (get_or line k 0) (prefix_len_passes is_ascii_hexdigit line k 0 front))

  pub digits_fit : len ≤ 16 → 16 ^ length (take len line) ≤ 2 ^ 64
  digits_fit le =
      let short : length (take len line) ≤ 16 = omega (arith, le, length-take len line) in
      pow-le-pow_right {n = 16} (omega arith) {i = length (take len line)} {j = 16} short

  pub size_of_some : (size : ℕ) → len ≢ 0 → len ≤ 16 → ends_size (drop len line) ≡ true → size ≡ digits_value 16 (take len line) → Some size ≡ size_of line
  unfolding size_of
  size_of_some size some le ends e =
      let a : ltb 0 (length (hex_digits line)) ≡ true = rw (← is) (le-ltb-true len some) in
      let b : leb (length (hex_digits line)) 16 ≡ true = rw (← is) (leb-true len le) in
      let c : ends_size (drop (length (hex_digits line)) line) ≡ true = rw (← is) ends in
      rw (a, b, c, e, digits_are) refl

  pub size_of_empty : len ≡ 0 → None ≡ size_of line
  unfolding size_of
  size_of_empty e = let a : ltb 0 (length (hex_digits line)) ≡ false = rw (← is, e) refl in rw a refl

  pub size_of_long : 16 < len → None ≡ size_of line
  unfolding size_of
  size_of_long long =
      let b : leb (length (hex_digits line)) 16 ≡ false = rw (← is) (leb-false len long) in
      rw b (off (ltb 0 (length (hex_digits line))) (ends_size (drop (length (hex_digits line)) line)) (Some (digits_value 16 (hex_digits line))))
    where
      off : (t u : Bool) (x : Option ℕ) → None ≡ cond (t && false && u) x None
      off true u x = refl
      off false u x = refl

  pub size_of_other : ends_size (drop len line) ≡ false → None ≡ size_of line
  unfolding size_of
  size_of_other wrong =
      let c : ends_size (drop (length (hex_digits line)) line) ≡ false = rw (← is) wrong in
      rw c (off (ltb 0 (length (hex_digits line)) && leb (length (hex_digits line)) 16) (Some (digits_value 16 (hex_digits line))))
    where
      off : (t : Bool) (x : Option ℕ) → None ≡ cond (t && false) x None
      off true x = refl
      off false x = refl

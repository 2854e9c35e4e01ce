-- Moments read from texts.
use Rattle.std.proofs.Common.{◌≡◌, ℕ, ◌<◌, ◌^◌, Bool, true, false, List, [], ◌∷◌, length, Option, None, Result, Ok, Err, refl, ap, ◌∙◌}
use Rattle.std.specs.Prelude.{◌&&◌, nat_lt, nat_le}
use Rattle.std.specs.Char.{is_ascii_digit}
use Rattle.std.specs.List.{list_all}
use Rattle.std.specs.Result.{OkIff, result_ok}
use Rattle.std.specs.Str.{all_ascii_digits}
use Rattle.std.specs.Str.Parse.{ParsesUnsigned, digits_value}
use Rattle.std.proofs.lemmas.Bool.{and_parts, le-leb, leb-true}
use Rattle.std.proofs.lemmas.Str.Parse.{numerals_by_value, parse_digits, tells_all_ascii_digits}
use Rattle.zot_layout.specs.Moments.{are_digits, moment_named, moment_within}

pub same_test : (text : List ℕ) → all_ascii_digits text ≡ list_all is_ascii_digit text
same_test [] = refl
same_test (c ∷ cs) = ap (λ b. is_ascii_digit c && b) (same_test cs)

-- a number that was parsed, or is too large
within : {E : Type 0} (n size : ℕ) (r : Result ℕ E) → 0 < size → OkIff r ((0 < size) × (n < 2 ^ 64)) n → result_ok r ≡ moment_within n
within n size (Ok m) some h = rw (h.1, le-leb _ _ h.0.1) refl
within n size (Err e) some h = by (nat_lt n (2 ^ 64)) refl where
  by : (b : Bool) → nat_lt n (2 ^ 64) ≡ b → None ≡ moment_within n
  by true is = absurd (h (some, leb-true _ _ is))
  by false is = rw is refl

-- digits are parsed as their number, where 64 bits hold it
pub parsed : {E : Type 0} (text : List ℕ) (r : Result ℕ E) → are_digits text ≡ true → ParsesUnsigned 64 10 text r → result_ok r ≡ moment_within (digits_value 10 text)
parsed text r digits h =
    let first = and_parts (nat_lt 0 (length text)) (nat_le (length text) 20 && list_all is_ascii_digit text) digits in
    let second = and_parts (nat_le (length text) 20) (list_all is_ascii_digit text) first.1 in
    within (digits_value 10 text) (length text) r (leb-true _ _ first.0)
    (parse_digits (numerals_by_value (λ ds. all_ascii_digits ds ≡ true) tells_all_ascii_digits) 64 text r h (same_test text ∙ second.1))

pub named : (text : List ℕ) (found : Option ℕ) → are_digits text ≡ true → found ≡ moment_within (digits_value 10 text) → found ≡ moment_named text
unfolding moment_named
named text found digits is = rw (digits, is) refl

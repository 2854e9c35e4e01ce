-- What a field's value says.
use Rattle.std.proofs.Common.{◌≡◌, ℕ, ◌<◌, ◌≤◌, true, List, length, refl, arith, Some, ltb, leb}
use Rattle.std.proofs.lemmas.Bool.Decides.{nat_tests}
use Rattle.std.specs.Char.{is_ascii_digit}
use Rattle.std.specs.List.{list_all}
use Rattle.std.specs.Str.Parse.{digits_value}
use Rattle.zot_head.specs.Fields.{length_of}

-- ---- a length

pub length_of_some : (value : List ℕ) (n : ℕ) → 0 < length value → length value ≤ 18 → list_all is_ascii_digit value ≡ true → n ≡ digits_value 10 value → Some n ≡ length_of value
unfolding length_of
length_of_some value n some few digits is =
    let a : ltb 0 (length value) ≡ true = grind (arith, nat_tests) in
    let b : leb (length value) 18 ≡ true = grind (arith, nat_tests) in
    rw (a, b, digits, is) refl

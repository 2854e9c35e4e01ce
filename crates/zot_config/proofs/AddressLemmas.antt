-- Addresses: how `split_once` and `parse` read them.
use Rattle.std.proofs.Common.{◌≡◌, ℕ, ◌+◌, Bool, true, false, ◌&&◌, ltb, List, [], length, drop, Option, Some, None, Result, Ok, Err, Bor, refl, sym, ap, ◌∙◌, arith, rules}
use Rattle.std.specs.Char.{is_ascii_digit}
use Rattle.std.specs.List.{after_first, list_all, position_or_len}
use Rattle.std.specs.Str.Parse.{digits_value, ParsesUnsigned}
use Rattle.std.proofs.lemmas.Bool.Decides.{Decides-ltb}
use Rattle.std.proofs.lemmas.List.{drop_all}
use Rattle.std.proofs.lemmas.Str.Parse.{IsNumeralModel, IsDigitsTest, numerals_by_value, parse_digits}
use Rattle.std.proofs.lemmas.Str.Pattern.{IsSplitOnceResult, split_once_first}
use Rattle.zot_config.specs.Address.{is_address, is_colon, is_host, is_port, writes_port}

digits_test : IsDigitsTest (λ ds. list_all is_ascii_digit ds ≡ true)
digits_test = search rules

own : IsNumeralModel (λ ds. list_all is_ascii_digit ds ≡ true) (digits_value 10)
own = numerals_by_value _ digits_test

and_false : (a : Bool) → (a && false) ≡ false
and_false true = refl
and_false false = refl

and_true : (a : Bool) → (a && true) ≡ a
and_true true = refl
and_true false = refl

both_false : (a b c : Bool) → ((a ≡ true) → (c ≡ true) → ⊥) → false ≡ (a && (b && c))
both_false true b true h = absurd (h refl refl)
both_false true b false h = sym (and_false b)
both_false false b c h = refl

-- what digits that are read as a number say
pub read_as : {E : Type 0} (digits : List ℕ) (r : Result ℕ E) (n : ℕ) → ParsesUnsigned 16 10 digits r → list_all is_ascii_digit digits ≡ true → r ≡ Ok n → ltb 0 n ≡ writes_port digits
unfolding writes_port
read_as digits r n h all e =
    let given = parse_digits own 16 digits r h all in
    let read = rw e at given in
    let some : ltb 0 (length digits) ≡ true = (Decides-ltb 0 (length digits)).1 read.0.0 in
    let fits : ltb (digits_value 10 digits) 65536 ≡ true = (Decides-ltb (digits_value 10 digits) 65536).1 read.0.1 in
    rw (some, read.1, fits) (sym (and_true _))

-- what digits that aren't read say
pub unread : {E : Type 0} (digits : List ℕ) (r : Result ℕ E) (e : E) → ParsesUnsigned 16 10 digits r → list_all is_ascii_digit digits ≡ true → r ≡ Err e → false ≡ writes_port digits
unfolding writes_port
unread digits r e h all is =
    let given = parse_digits own 16 digits r h all in
    let not = rw is at given in
    both_false (ltb 0 (length digits)) (ltb 0 (digits_value 10 digits)) (ltb (digits_value 10 digits) 65536)
    (λ some fits. not ((Decides-ltb 0 (length digits)).0 some, (Decides-ltb (digits_value 10 digits) 65536).0 fits))

-- where there is no colon, nothing stands after it
pub no_colon : (text : List ℕ) (r : Option (Bor (List ℕ) × Bor (List ℕ))) → IsSplitOnceResult 58 text r → r ≡ None → false ≡ is_address text
unfolding is_address is_port writes_port
no_colon text r h e =
    let given = split_once_first 58 text r h (omega arith) in
    let none : position_or_len is_colon text ≡ length text = rw e at given in
    let nothing : after_first is_colon text ≡ [] = ap (λ n. drop (n + 1) text) none ∙ drop_all (length text + 1) text (omega arith) in
    rw nothing (sym (and_false _))

-- the host stands before the first colon, the port after it
pub at_colon : (text : List ℕ) (r : Option (Bor (List ℕ) × Bor (List ℕ))) (parts : Bor (List ℕ) × Bor (List ℕ)) → IsSplitOnceResult 58 text r → r ≡ Some parts
    → (is_host parts.0.now && is_port parts.1.now) ≡ is_address text
unfolding is_address
at_colon text r parts h e =
    let given = split_once_first 58 text r h (omega arith) in
    let some = rw e at given in
    rw (some.1, some.2) refl

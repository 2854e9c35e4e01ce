use Rattle.std.proofs.Common.{◌≡◌, ℕ, ◌+◌, ◌==◌, List, length, take, drop, get_or, sym, ap, ◌∙◌, arith, take_all}
use Rattle.std.specs.List.{position_or_len}
use Rattle.std.proofs.lemmas.Bool.{false_from_ne_true}
use Rattle.std.proofs.lemmas.List.{take_rest, drop_all}
use Rattle.std.proofs.lemmas.List.Sums.{position_or_len_is}
use Rattle.memchr.specs.Find.{NoneBefore, Nowhere, Passes, is_byte}
use Rattle.zot_cuts.proofs.cutting.cut.Goals as goal

first_place : (at : ℕ) (bytes : List ℕ) (place : ℕ) → NoneBefore (Passes (is_byte at) bytes) 0 (length bytes) place × Passes (is_byte at) bytes place → position_or_len (λ b. b == at) bytes ≡ place
first_place at bytes place h =
    let high = h.0.high in
    position_or_len_is (λ b. b == at) bytes place 0 (omega (arith, high)) (λ k lt. false_from_ne_true (get_or bytes k 0 == at) (h.0.before k (omega arith) lt)) (λ lt. h.1)

no_place : (at : ℕ) (bytes : List ℕ) → Nowhere (Passes (is_byte at) bytes) 0 (length bytes) → position_or_len (λ b. b == at) bytes ≡ length bytes
no_place at bytes none =
    position_or_len_is (λ b. b == at) bytes (length bytes) 0 (omega arith) (λ k lt. false_from_ne_true (get_or bytes k 0 == at) (none k (omega arith) lt)) (λ lt. absurd (omega (arith, lt)))

pub returns-in-Some : goal.returns-in-Some
returns-in-Some c =
    let bytes = c.args.bytes.now in
    let found = first_place c.args.at bytes c.in-Some.place c.in-Some.ensures in
    record { before = ap (λ n. take n bytes) (sym found); after = take_rest bytes _ ∙ ap (λ n. drop (n + 1) bytes) (sym found) }

pub returns-in-None : goal.returns-in-None
returns-in-None c =
    let bytes = c.args.bytes.now in
    let none = no_place c.args.at bytes c.in-None.ensures in
    record {
      before = sym (ap (λ n. take n bytes) none ∙ take_all (length bytes) bytes (omega arith));
      after = sym (ap (λ n. drop (n + 1) bytes) none ∙ drop_all (length bytes + 1) bytes (omega arith));
    }

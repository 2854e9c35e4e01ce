-- The segments of a path that are still to be decoded.
use Rattle.std.proofs.Common.{◌≡◌, ℕ, ◌+◌, ◌<◌, ◌≤◌, ◌==◌, List, [], ◌∷◌, ◌++◌, drop, length, get_or, map, sym, ap, subst, ◌∙◌, append_assoc}
use Rattle.std.specs.Prelude.{◌↔◌, IsUtf8, MatchOption, Option, None, Some}
use Rattle.std.specs.List.{AllByRecursion, slice_split}
use Rattle.std.proofs.lemmas.List.{append-nil, at_drop_more, at_drop_all}
use Rattle.percent_encoding.specs.Percent.{percent_decode}
use Rattle.zot_names.specs.Name.{slash}

-- the segments from this one on
abbrev pub left : List ℕ → ℕ → List (List ℕ)
left path i = map percent_decode (drop i (slice_split (λ b. b == slash) path))

-- there are more, and this is the first of them
pub first_left : (path segment : List ℕ) (i : ℕ) → (i < length (slice_split (λ b. b == slash) path)) × (segment ≡ get_or (slice_split (λ b. b == slash) path) i segment)
    → left path i ≡ percent_decode segment ∷ left path (i + 1)
first_left path segment i (within, is) =
    at_drop_more (map percent_decode) (slice_split (λ b. b == slash) path) i segment within
    ∙ ap (λ p. percent_decode p ∷ left path (i + 1)) (sym is)

pub none_left : (path : List ℕ) (i : ℕ) → length (slice_split (λ b. b == slash) path) ≤ i → left path i ≡ []
none_left path i le = at_drop_all (map percent_decode) (slice_split (λ b. b == slash) path) i le

-- one segment more is decoded
pub one_more : (all done pushed rest here : List (List ℕ)) (segment text : List ℕ) → all ≡ done ++ here → here ≡ segment ∷ rest → pushed ≡ done ++ text ∷ [] → text ≡ segment
    → all ≡ pushed ++ rest
one_more all done pushed rest here segment text e f g h =
    let shown : all ≡ (done ++ segment ∷ []) ++ rest = e ∙ ap (λ t. done ++ t) f ∙ sym (append_assoc done (segment ∷ []) rest) in
    let added : done ++ segment ∷ [] ≡ pushed = ap (λ t. done ++ t ∷ []) (sym h) ∙ sym g in
    shown ∙ ap (λ t. t ++ rest) added

pub all_more : (all here rest : List (List ℕ)) (segment : List ℕ) → AllByRecursion IsUtf8 all ↔ AllByRecursion IsUtf8 here → here ≡ segment ∷ rest → IsUtf8 segment
    → AllByRecursion IsUtf8 all ↔ AllByRecursion IsUtf8 rest
all_more all here rest segment same e is = (
  λ every. (subst (AllByRecursion IsUtf8) e (same.0 every)).1,
  λ others. same.1 (subst (AllByRecursion IsUtf8) (sym e) (is, others)),
)

-- one segment isn't a text
pub not_all : (all here rest : List (List ℕ)) (segment : List ℕ) → AllByRecursion IsUtf8 all ↔ AllByRecursion IsUtf8 here → here ≡ segment ∷ rest → ¬ IsUtf8 segment
    → ¬ AllByRecursion IsUtf8 all
not_all all here rest segment same e none every = none (subst (AllByRecursion IsUtf8) e (same.0 every)).0

-- all are decoded
pub all_done : (all done here : List (List ℕ)) → all ≡ done ++ here → here ≡ [] → done ≡ all
all_done all done here e f = sym (e ∙ ap (λ t. done ++ t) f ∙ append-nil done)

pub all_are : (all here : List (List ℕ)) → AllByRecursion IsUtf8 all ↔ AllByRecursion IsUtf8 here → here ≡ [] → AllByRecursion IsUtf8 all
all_are all here same e = same.1 (subst (AllByRecursion IsUtf8) (sym e) tt)

-- what a reader says of the segment
pub is_no_text : (found : Option (List ℕ)) (segment : List ℕ) → MatchOption found (¬ IsUtf8 segment) (λ text. (text ≡ segment) × IsUtf8 segment) → found ≡ None → ¬ IsUtf8 segment
is_no_text found segment h e = subst (λ o. MatchOption o (¬ IsUtf8 segment) (λ text. (text ≡ segment) × IsUtf8 segment)) e h

pub is_text : (found : Option (List ℕ)) (segment text : List ℕ) → MatchOption found (¬ IsUtf8 segment) (λ text. (text ≡ segment) × IsUtf8 segment) → found ≡ Some text
    → (text ≡ segment) × IsUtf8 segment
is_text found segment text h e = subst (λ o. MatchOption o (¬ IsUtf8 segment) (λ text. (text ≡ segment) × IsUtf8 segment)) e h

-- Tests of lists' elements, one element further.
use Rattle.std.proofs.Common.{◌≡◌, ◌<◌, ◌+◌, ℕ, zero, suc, Bool, true, false, cond, not, ◌||◌, ◌&&◌, List, [], ◌∷◌, ◌++◌, map, take, length, get_or, refl, sym, ap, ap₂, ◌∙◌, arith, append-nil}
use Rattle.std.specs.List.{filter, list_any}
use Rattle.std.proofs.lemmas.List.Elements.{filter_more}
use Rattle.std.proofs.lemmas.List.Folds.{list_any_more}
use Rattle.zot_retention.proofs.MarkLemmas.{mark_at}

pub or_assoc : (a b c : Bool) → ((a || b) || c) ≡ (a || (b || c))
or_assoc true b c = refl
or_assoc false b c = refl

pub or_left : (a b : Bool) → a ≡ true → (a || b) ≡ true
or_left true b h = refl
or_left false b h = cc h

pub or_right : (a b : Bool) → b ≡ true → (a || b) ≡ true
or_right true b h = refl
or_right false b h = h

-- some of the first elements passes, one of them more
pub any_further : {X : Type 0} (p : X → Bool) (xs : List X) (i : ℕ) (x : X) → i < length xs → x ≡ get_or xs i x →
    list_any p (take (i + 1) xs) ≡ (list_any p (take i xs) || p x)
any_further p xs i x within is = list_any_more p xs i x within ∙ ap (λ y. list_any p (take i xs) || p y) (sym is)

-- an element that passes is one more, and one that doesn't isn't
pub one_passes : {X : Type 0} (p : X → Bool) (xs : List X) (i : ℕ) (x : X) → i < length xs → x ≡ get_or xs i x → p x ≡ true →
    filter p (take (i + 1) xs) ≡ filter p (take i xs) ++ (x ∷ [])
one_passes p xs i x within is passes =
    filter_more p xs i x within
    ∙ ap (λ y. filter p (take i xs) ++ cond (p y) (y ∷ []) []) (sym is)
    ∙ ap (λ (b : Bool). filter p (take i xs) ++ cond b (x ∷ []) []) passes

pub one_fails : {X : Type 0} (p : X → Bool) (xs : List X) (i : ℕ) (x : X) → i < length xs → x ≡ get_or xs i x → p x ≡ false →
    filter p (take (i + 1) xs) ≡ filter p (take i xs)
one_fails p xs i x within is fails =
    filter_more p xs i x within
    ∙ ap (λ y. filter p (take i xs) ++ cond (p y) (y ∷ []) []) (sym is)
    ∙ ap (λ (b : Bool). filter p (take i xs) ++ cond b (x ∷ []) []) fails
    ∙ append-nil (filter p (take i xs))

pub item_at : {X : Type 0} (xs : List X) (i : ℕ) → i < length xs → (x : X) × (x ≡ get_or xs i x)
item_at [] i within = absurd (omega arith)
item_at (x ∷ xs) zero within = (x, refl)
item_at (x ∷ xs) (suc i) within = item_at xs i (omega arith)

-- an element without a mark is one more of those that don't pass, and one with a mark isn't
pub unmarked_one : {X : Type 0} (test : X → Bool) (xs : List X) (marks : List Bool) (i : ℕ) (x : X) (d : Bool) →
    marks ≡ map test xs → i < length xs → x ≡ get_or xs i x → get_or marks i d ≡ false →
    filter (λ y. not (test y)) (take (i + 1) xs) ≡ filter (λ y. not (test y)) (take i xs) ++ (x ∷ [])
unmarked_one test xs marks i x d e within is h =
    one_passes (λ y. not (test y)) xs i x within is (ap not (sym (mark_at test xs marks i x d e within is) ∙ h))

pub marked_one : {X : Type 0} (test : X → Bool) (xs : List X) (marks : List Bool) (i : ℕ) (d : Bool) →
    marks ≡ map test xs → i < length xs → get_or marks i d ≡ true →
    filter (λ y. not (test y)) (take (i + 1) xs) ≡ filter (λ y. not (test y)) (take i xs)
marked_one test xs marks i d e within h =
    let item = item_at xs i within in
    one_fails (λ y. not (test y)) xs i item.0 within item.1 (ap not (sym (mark_at test xs marks i item.0 d e within item.1) ∙ h))

or_false : (a : Bool) → (a || false) ≡ a
or_false true = refl
or_false false = refl

-- of those that pass a test some passes another, one more that passes the test, or that doesn't
pub any_with : {X : Type 0} (test p : X → Bool) (xs : List X) (i : ℕ) (x : X) (now next : Bool) → i < length xs → x ≡ get_or xs i x → test x ≡ true →
    now ≡ list_any (λ y. test y && p y) (take i xs) → next ≡ (now || p x) → next ≡ list_any (λ y. test y && p y) (take (i + 1) xs)
any_with test p xs i x now next within is passes so_far step =
    step
    ∙ ap₂ (λ a b. a || b) so_far (sym (ap (λ b. b && p x) passes))
    ∙ sym (any_further (λ y. test y && p y) xs i x within is)

pub any_without : {X : Type 0} (test p : X → Bool) (xs : List X) (i : ℕ) (now : Bool) → i < length xs → ((x : X) → x ≡ get_or xs i x → test x ≡ false) →
    now ≡ list_any (λ y. test y && p y) (take i xs) → now ≡ list_any (λ y. test y && p y) (take (i + 1) xs)
any_without test p xs i now within fails so_far =
    let item = item_at xs i within in
    so_far
    ∙ sym (any_further (λ y. test y && p y) xs i item.0 within item.1
    ∙ ap (λ b. list_any (λ y. test y && p y) (take i xs) || (b && p item.0)) (fails item.0 item.1)
    ∙ or_false (list_any (λ y. test y && p y) (take i xs)))

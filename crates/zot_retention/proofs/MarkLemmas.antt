-- Marks: a list of tests' answers, one for each tag.
use Rattle.std.proofs.Common.{◌≡◌, ◌<◌, ◌+◌, ℕ, zero, suc, Bool, true, false, cond, ◌||◌, List, [], ◌∷◌, ◌++◌, map, take, length, get_or, refl, sym, ap, ◌∙◌, arith, append-nil}
use Rattle.std.specs.List.{filter, list_any}
use Rattle.std.proofs.lemmas.List.{get_or-map, map_more}
use Rattle.std.proofs.lemmas.List.Elements.{filter_more}
use Rattle.std.proofs.lemmas.List.Folds.{list_any_more}
use mathlib.Core.Path.{fun_ext}

-- the mark at a place is the test's answer for the element there
pub mark_at : {X : Type 0} (test : X → Bool) (xs : List X) (marks : List Bool) (i : ℕ) (x : X) (d : Bool) →
    marks ≡ map test xs → i < length xs → x ≡ get_or xs i x → get_or marks i d ≡ test x
mark_at test xs marks i x d e within is =
    ap (λ ms. get_or ms i d) e ∙ get_or-map test xs i x d within ∙ ap test (sym is)

-- a map of one element more
pub one_further : {X Y : Type 0} (f : X → Y) (xs : List X) (i : ℕ) (x : X) → i < length xs → x ≡ get_or xs i x →
    map f (take (i + 1) xs) ≡ map f (take i xs) ++ (f x ∷ [])
one_further f xs i x within is = map_more f xs i x within ∙ ap (λ y. map f (take i xs) ++ (f y ∷ [])) (sym is)

-- an element with a mark is one more of those that pass, and one without isn't
pub marked_row : {X : Type 0} (test : X → Bool) (xs : List X) (marks : List Bool) (i : ℕ) (x : X) (d : Bool) →
    marks ≡ map test xs → i < length xs → x ≡ get_or xs i x → get_or marks i d ≡ true →
    filter test (take (i + 1) xs) ≡ filter test (take i xs) ++ (x ∷ [])
marked_row test xs marks i x d e within is marked =
    filter_more test xs i x within
    ∙ ap (λ y. filter test (take i xs) ++ cond (test y) (y ∷ []) []) (sym is)
    ∙ ap (λ (passes : Bool). filter test (take i xs) ++ cond passes (x ∷ []) []) (sym (mark_at test xs marks i x d e within is) ∙ marked)

item_at : {X : Type 0} (xs : List X) (i : ℕ) → i < length xs → (x : X) × (x ≡ get_or xs i x)
item_at [] i within = absurd (omega arith)
item_at (x ∷ xs) zero within = (x, refl)
item_at (x ∷ xs) (suc i) within = item_at xs i (omega arith)

pub passed_row : {X : Type 0} (test : X → Bool) (xs : List X) (marks : List Bool) (i : ℕ) (d : Bool) →
    marks ≡ map test xs → i < length xs → get_or marks i d ≡ false → filter test (take (i + 1) xs) ≡ filter test (take i xs)
passed_row test xs marks i d e within passed =
    let item = item_at xs i within in
    filter_more test xs i item.0 within
    ∙ ap (λ y. filter test (take i xs) ++ cond (test y) (y ∷ []) []) (sym item.1)
    ∙ ap (λ (passes : Bool). filter test (take i xs) ++ cond passes (item.0 ∷ []) []) (sym (mark_at test xs marks i item.0 d e within item.1) ∙ passed)
    ∙ append-nil (filter test (take i xs))

or_later : (a b c : Bool) → ((a || b) || c) ≡ (a || (b || c))
or_later true b c = refl
or_later false b c = refl

-- what holds by the first items or by one more holds by one item more
pub one_more_item : {X Y : Type 0} (holds : X → Y → Bool) (always : Bool) (xs : List X) (i : ℕ) (x : X) (ys : List Y) →
    i < length xs → x ≡ get_or xs i x →
    map (λ y. (always || list_any (λ z. holds z y) (take i xs)) || holds x y) ys ≡ map (λ y. always || list_any (λ z. holds z y) (take (i + 1) xs)) ys
one_more_item holds always xs i x ys within is =
    ap (λ test. map test ys) (fun_ext (λ y. or_later always (list_any (λ z. holds z y) (take i xs)) (holds x y)
    ∙ ap (λ some. always || some)
    (ap (λ z. list_any (λ w. holds w y) (take i xs) || holds z y) is ∙ sym (list_any_more (λ z. holds z y) xs i x within))))

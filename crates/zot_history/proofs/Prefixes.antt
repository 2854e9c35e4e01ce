-- Beginnings of lists.
use Rattle.std.proofs.Common.{◌≡◌, ◌≤◌, List, [], ◌∷◌, ◌++◌, length, sym, refl, ap, ◌∙◌, arith, append_assoc, append-nil, length-append}
use mathlib.Core.List.{IsPrefix}

module _ {A : Type 0} where
  pub no_more : (xs : List A) → length xs ≡ 0 → xs ≡ []
  no_more [] e = refl
  no_more (x ∷ xs) e = absurd (omega arith)

  -- what comes after a list and leaves it is empty
  pub after_itself : (xs ys : List A) → xs ++ ys ≡ xs → ys ≡ []
  after_itself xs ys e = no_more ys (omega (arith, ap length e, length-append xs ys))

  pub prefix_refl : (xs : List A) → IsPrefix xs xs
  prefix_refl xs = ([], append-nil xs)

  pub prefix_nil : (xs : List A) → IsPrefix [] xs
  prefix_nil xs = (xs, refl)

  pub prefix_trans : (xs ys zs : List A) → IsPrefix xs ys → IsPrefix ys zs → IsPrefix xs zs
  prefix_trans xs ys zs p q = (p.0 ++ q.0, sym (append_assoc xs p.0 q.0) ∙ ap (λ (l : List A). l ++ q.0) p.1 ∙ q.1)

  pub prefix_more : (xs ys more : List A) → IsPrefix xs ys → IsPrefix xs (ys ++ more)
  prefix_more xs ys more p = (p.0 ++ more, sym (append_assoc xs p.0 more) ∙ ap (λ (l : List A). l ++ more) p.1)

  pub prefix_length : (xs ys : List A) → IsPrefix xs ys → length xs ≤ length ys
  prefix_length xs ys p = omega (arith, ap length p.1, length-append xs p.0)

  -- of two beginnings of one list the shorter begins the longer
  pub both_begin : (xs ys zs : List A) → IsPrefix xs zs → IsPrefix ys zs → length xs ≤ length ys → IsPrefix xs ys
  both_begin [] ys zs p q le = (ys, refl)
  both_begin (x ∷ xs) [] zs p q le = absurd (omega arith)
  both_begin (x ∷ xs) (y ∷ ys) [] p q le = let e : x ∷ (xs ++ p.0) ≡ [] = p.1 in absurd (cc e)
  both_begin (x ∷ xs) (y ∷ ys) (z ∷ zs) p q le =
      let e : x ∷ (xs ++ p.0) ≡ z ∷ zs = p.1 in
      let f : y ∷ (ys ++ q.0) ≡ z ∷ zs = q.1 in
      let a : xs ++ p.0 ≡ zs = cc e in
      let b : ys ++ q.0 ≡ zs = cc f in
      let h : x ≡ y = cc (e, f) in
      let r = both_begin xs ys zs (p.0, a) (q.0, b) (omega arith) in
      (r.0, λ i. h i ∷ r.1 i)

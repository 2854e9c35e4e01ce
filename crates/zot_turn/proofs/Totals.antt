-- Counting over the views: how often a number stands, and what a change of one view changes.
use Rattle.std.proofs.Common.{◌≡◌, ◌≢◌, ◌==◌, ◌<◌, ◌≤◌, ◌+◌, ℕ, zero, suc, List, [], ◌∷◌, ◌++◌, Bool, cond, length, set, get_or, sym, refl, ap, subst, arith, append_assoc, append-nil, eq-eqb, ne_eqb, ⊎_elim, eq-zero-or-pos}
use Rattle.std.specs.List.{AllByRecursion, Contains}
use Rattle.std.proofs.lemmas.List.{map-append}
use mathlib.Core.Logic.{dite}
use mathlib.Core.Option.{some, some-injective, some-ne-none}
use native.Mathlib.Decide.{ℕ_discrete}
use lib.ListN.{get_elem?}
use Rattle.zot_turn.specs.Seats.{numbers, with_entries}
use Rattle.zot_turn.specs.Steps.{times, total, blank}

pub times-append : (n : ℕ) (xs ys : List ℕ) → times n (xs ++ ys) ≡ times n xs + times n ys
times-append n [] ys = omega arith
times-append n (x ∷ xs) ys = let h : times n (xs ++ ys) ≡ times n xs + times n ys = times-append n xs ys in let k : ℕ = cond (x == n) 1 0 in let g : k + times n (xs ++ ys) ≡ (k + times n xs) + times n ys = omega arith in g

pub times_one : (n : ℕ) → times n (n ∷ []) ≡ 1
times_one n = ap (λ (b : Bool). cond b 1 0 + 0) (eq-eqb n n refl)

pub times_other : (n m : ℕ) → m ≢ n → times n (m ∷ []) ≡ 0
times_other n m ne = ap (λ (b : Bool). cond b 1 0 + 0) (ne_eqb m n ne)

pub times_first : (n m : ℕ) (ms : List ℕ) → m ≡ n → 0 < times n (m ∷ ms)
times_first n m ms e = let h : times n (m ∷ ms) ≡ 1 + times n ms = ap (λ (b : Bool). cond b 1 0 + times n ms) (eq-eqb m n e) in omega (arith, h)

pub times_rest : (n m : ℕ) (ms : List ℕ) → m ≢ n → times n (m ∷ ms) ≡ 0 + times n ms
times_rest n m ms ne = ap (λ (b : Bool). cond b 1 0 + times n ms) (ne_eqb m n ne)

pub times_more : (n m : ℕ) (ms : List ℕ) → times n ms ≤ times n (m ∷ ms)
times_more n m ms = let k : ℕ = cond (m == n) 1 0 in let g : times n ms ≤ k + times n ms = omega arith in g

times_at : (n : ℕ) (xs : List ℕ) (k : ℕ) → k < length xs → get_or xs k n ≡ n → 0 < times n xs
times_at n [] k l e = absurd (omega arith)
times_at n (x ∷ xs) zero l e = times_first n x xs e
times_at n (x ∷ xs) (suc k) l e = let r : 0 < times n xs = times_at n xs k (omega arith) e in omega (arith, r, times_more n x xs)

pub times_contained : (n : ℕ) (xs : List ℕ) → Contains xs n → 0 < times n xs
times_contained n xs h = times_at n xs h.0 h.1 h.2

pub contained_times : (n : ℕ) (xs : List ℕ) → 0 < times n xs → Contains xs n
contained_times n [] h = absurd (omega arith)
contained_times n (x ∷ xs) h = dite (ℕ_discrete x n)
    (λ (e : x ≡ n). (zero, omega arith, e))
    (λ (ne : x ≢ n). let r = contained_times n xs (omega (arith, h, times_rest n x xs ne)) in (suc r.0, omega (arith, r.1), r.2))

pub numbers_blank : (E : Type 0) (ns : List ℕ) → numbers (blank {E = E} ns) ≡ ns
numbers_blank E [] = refl
numbers_blank E (n ∷ ns) = ap (λ (l : List ℕ). n ∷ l) (numbers_blank E ns)

module _ {E : Type 0} where
  pub numbers-append : (xs ys : List (ℕ × List E)) → numbers (xs ++ ys) ≡ numbers xs ++ numbers ys
  numbers-append xs ys = map-append (λ (m : ℕ × List E). m.0) xs ys

  pub numbers_with : (es : List E) (mine : List (ℕ × List E)) → numbers (with_entries es mine) ≡ numbers mine
  numbers_with es [] = refl
  numbers_with es (m ∷ ms) = refl

  pub with_none : (mine : List (ℕ × List E)) → with_entries [] mine ≡ mine
  with_none [] = refl
  with_none (m ∷ ms) = ap (λ (l : List E). (m.0, l) ∷ ms) (append-nil m.1)

  pub with_more : (xs ys : List E) (mine : List (ℕ × List E)) → with_entries ys (with_entries xs mine) ≡ with_entries (xs ++ ys) mine
  with_more xs ys [] = refl
  with_more xs ys (m ∷ ms) = ap (λ (l : List E). (m.0, l) ∷ ms) (append_assoc m.1 xs ys)

  -- a fact of each number holds of one that stands among them
  pub each_number : (Q : ℕ → Type 0) (mine : List (ℕ × List E)) → AllByRecursion (λ (m : ℕ × List E). Q m.0) mine → (n : ℕ) → 0 < times n (numbers mine) → Q n
  each_number Q [] a n h = absurd (omega arith)
  each_number Q (m ∷ ms) a n h = dite (ℕ_discrete m.0 n)
      (λ (e : m.0 ≡ n). subst Q e a.0)
      (λ (ne : m.0 ≢ n). each_number Q ms a.1 n (omega (arith, h, times_rest n m.0 (numbers ms) ne)))

  -- and one that holds of whatever stands among them holds of each
  pub each_of_numbers : (Q : ℕ → Type 0) (mine : List (ℕ × List E)) → ((n : ℕ) → 0 < times n (numbers mine) → Q n) → AllByRecursion (λ (m : ℕ × List E). Q m.0) mine
  each_of_numbers Q [] h = tt
  each_of_numbers Q (m ∷ ms) h = (h m.0 (times_first m.0 m.0 (numbers ms) refl), each_of_numbers Q ms (λ n l. h n (omega (arith, l, times_more n m.0 (numbers ms)))))

module _ {V : Type 0} where
  pub total_set : (f : V → ℕ) (vs : List V) (i : ℕ) (v w : V) → get_elem? vs i ≡ some v → total f (set vs i w) + f v ≡ total f vs + f w
  total_set f [] i v w e = absurd (some-ne-none v (sym e))
  total_set f (x ∷ xs) zero v w e = let h : f x ≡ f v = ap f (some-injective x v e) in let g : (f w + total f xs) + f v ≡ (f x + total f xs) + f w = omega arith in g
  total_set f (x ∷ xs) (suc i) v w e = let h : total f (set xs i w) + f v ≡ total f xs + f w = total_set f xs i v w e in let g : (f x + total f (set xs i w)) + f v ≡ (f x + total f xs) + f w = omega arith in g

  pub total_push : (f : V → ℕ) (vs : List V) (w : V) → total f (vs ++ w ∷ []) ≡ total f vs + f w
  total_push f [] w = omega arith
  total_push f (x ∷ xs) w = let h : total f (xs ++ w ∷ []) ≡ total f xs + f w = total_push f xs w in let g : f x + total f (xs ++ w ∷ []) ≡ (f x + total f xs) + f w = omega arith in g

  pub total_at : (f : V → ℕ) (vs : List V) (i : ℕ) (v : V) → get_elem? vs i ≡ some v → f v ≤ total f vs
  total_at f [] i v e = absurd (some-ne-none v (sym e))
  total_at f (x ∷ xs) zero v e = let h : f x ≡ f v = ap f (some-injective x v e) in let g : f v ≤ f x + total f xs = omega arith in g
  total_at f (x ∷ xs) (suc i) v e = let h : f v ≤ total f xs = total_at f xs i v e in let g : f v ≤ f x + total f xs = omega arith in g

  pub total_two : (f : V → ℕ) (vs : List V) (i j : ℕ) (v w : V) → i ≢ j → get_elem? vs i ≡ some v → get_elem? vs j ≡ some w → f v + f w ≤ total f vs
  total_two f [] i j v w ne e k = absurd (some-ne-none v (sym e))
  total_two f (x ∷ xs) zero zero v w ne e k = absurd (ne refl)
  total_two f (x ∷ xs) zero (suc j) v w ne e k = let h : f x ≡ f v = ap f (some-injective x v e) in let l : f w ≤ total f xs = total_at f xs j w k in let g : f v + f w ≤ f x + total f xs = omega arith in g
  total_two f (x ∷ xs) (suc i) zero v w ne e k = let h : f x ≡ f w = ap f (some-injective x w k) in let l : f v ≤ total f xs = total_at f xs i v e in let g : f v + f w ≤ f x + total f xs = omega arith in g
  total_two f (x ∷ xs) (suc i) (suc j) v w ne e k = let h : f v + f w ≤ total f xs = total_two f xs i j v w (λ q. ne (ap suc q)) e k in let g : f v + f w ≤ f x + total f xs = omega arith in g

  -- a view that counts
  pub record Counts (f : V → ℕ) (vs : List V) : Type 0 where
    pub id : ℕ
    pub view : V
    pub there : get_elem? vs id ≡ some view
    pub some_of : 0 < f view

  pub total_some : (f : V → ℕ) (vs : List V) → 0 < total f vs → Counts f vs
  total_some f [] h = absurd (omega arith)
  total_some f (x ∷ xs) h = ⊎_elim
      (λ (z : f x ≡ 0). let l : 0 < f x + total f xs = h in let r = total_some f xs (omega arith) in record { id = suc r.id; view = r.view; there = r.there; some_of = r.some_of })
      (λ (p : 0 < f x). record { id = zero; view = x; there = refl; some_of = p })
      (eq-zero-or-pos (f x))

  -- a place that has a view is within the list
  pub place_within : (vs : List V) (i : ℕ) (v : V) → get_elem? vs i ≡ some v → i < length vs
  place_within [] i v e = absurd (some-ne-none v (sym e))
  place_within (x ∷ xs) zero v e = omega arith
  place_within (x ∷ xs) (suc i) v e = let h : i < length xs = place_within xs i v e in omega arith

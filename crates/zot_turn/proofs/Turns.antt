-- Histories by turns: what more turns add to them.
use Rattle.std.proofs.Common.{◌≡◌, ◌≢◌, ◌==◌, ◌<◌, ℕ, List, [], ◌∷◌, ◌++◌, Bool, true, false, cond, length, ltb, sym, refl, ap, ◌∙◌, subst, arith, append-nil, length-append, eq-eqb, ne_eqb, ltb-true, ltb-false}
use Rattle.std.specs.List.{flat_map}
use Rattle.std.proofs.lemmas.List.Concat.{flat_map-append}
use mathlib.Core.Logic.{dite}
use mathlib.Core.List.{IsPrefix}
use native.Mathlib.Decide.{ℕ_discrete}
use Rattle.zot_history.specs.History.{signed, entries_of}
use Rattle.zot_turn.specs.Turns.{history, turns_of}
use Rattle.zot_history.proofs.Histories.{cond_append, entries_of-append, entries_of_others, entries_of_signed}
use Rattle.zot_turn.specs.Seats.{longer, shorter}
use Rattle.zot_history.proofs.Prefixes.{no_more, after_itself, prefix_refl, both_begin}

module _ {E : Type 0} where
  pub history-append : (xs ys : List (ℕ × List E)) → history (xs ++ ys) ≡ history xs ++ history ys
  history-append xs ys = flat_map-append (λ (t : ℕ × List E). signed t.0 t.1) xs ys

  pub history_push : (xs : List (ℕ × List E)) (n : ℕ) (es : List E) → history (xs ++ (n, es) ∷ []) ≡ history xs ++ signed n es
  history_push xs n es = history-append xs ((n, es) ∷ []) ∙ ap (λ (l : List (ℕ × E)). history xs ++ l) (append-nil (signed n es))

  pub history_prefix : (xs ys : List (ℕ × List E)) → IsPrefix xs ys → IsPrefix (history xs) (history ys)
  history_prefix xs ys p = (history p.0, sym (history-append xs p.0) ∙ ap history p.1)

  pub turns_of-append : (n : ℕ) (xs ys : List (ℕ × List E)) → turns_of n (xs ++ ys) ≡ turns_of n xs ++ turns_of n ys
  turns_of-append n [] ys = refl
  turns_of-append n (x ∷ xs) ys = cond_append (x.0 == n) x (turns_of n (xs ++ ys)) (turns_of n xs) (turns_of n ys) (turns_of-append n xs ys)

  pub turns_of_one : (n : ℕ) (es : List E) → turns_of n ((n, es) ∷ []) ≡ (n, es) ∷ []
  turns_of_one n es = ap (λ (b : Bool). cond b ((n, es) ∷ []) []) (eq-eqb n n refl)

  pub turns_of_other : (n m : ℕ) (es : List E) → m ≢ n → turns_of n ((m, es) ∷ []) ≡ []
  turns_of_other n m es ne = ap (λ (b : Bool). cond b ((m, es) ∷ []) []) (ne_eqb m n ne)

  -- the entries of these turns, without their numbers
  abbrev made : List (ℕ × List E) → List E
  made turns = flat_map (λ t. t.1) turns

  turn_entries : (n m : ℕ) (es : List E) → entries_of n (signed m es) ≡ cond (m == n) es []
  turn_entries n m es = dite (ℕ_discrete m n)
      (λ (e : m ≡ n). subst (λ (k : ℕ). entries_of k (signed m es) ≡ cond (m == k) es []) e (entries_of_signed m es ∙ sym (ap (λ (b : Bool). cond b es []) (eq-eqb m m refl))))
      (λ (ne : m ≢ n). entries_of_others n m es ne ∙ sym (ap (λ (b : Bool). cond b es []) (ne_eqb m n ne)))

  made_cond : (b : Bool) (t : ℕ × List E) (ts : List (ℕ × List E)) → made (cond b (t ∷ ts) ts) ≡ cond b t.1 [] ++ made ts
  made_cond true t ts = refl
  made_cond false t ts = refl

  entries_made : (n : ℕ) (ts : List (ℕ × List E)) → entries_of n (history ts) ≡ made (turns_of n ts)
  entries_made n [] = refl
  entries_made n (t ∷ ts) = entries_of-append n (signed t.0 t.1) (history ts)
      ∙ (λ i. turn_entries n t.0 t.1 i ++ entries_made n ts i)
      ∙ sym (made_cond (t.0 == n) t (turns_of n ts))

  -- a number with the same turns has the same entries
  pub same_entries : (n : ℕ) (xs ys : List (ℕ × List E)) → turns_of n xs ≡ turns_of n ys → entries_of n (history xs) ≡ entries_of n (history ys)
  same_entries n xs ys h = entries_made n xs ∙ ap made h ∙ sym (entries_made n ys)

  pub idle_entries : (n : ℕ) (xs : List (ℕ × List E)) → turns_of n xs ≡ [] → entries_of n (history xs) ≡ []
  idle_entries n xs h = entries_made n xs ∙ ap made h

  -- a beginning of a list with no turn of the number has none either
  pub idle_begin : (n : ℕ) (xs ys : List (ℕ × List E)) → IsPrefix xs ys → turns_of n ys ≡ [] → turns_of n xs ≡ []
  idle_begin n xs ys p h = no_more (turns_of n xs) (omega (arith, ap length (sym (turns_of-append n xs p.0) ∙ ap (turns_of n) p.1 ∙ h), length-append (turns_of n xs) (turns_of n p.0)))

  -- what a beginning has all of, a longer one has all of
  pub squeezed : (n : ℕ) (xs ys zs : List (ℕ × List E)) → IsPrefix xs ys → IsPrefix ys zs → turns_of n zs ≡ turns_of n xs → turns_of n zs ≡ turns_of n ys
  squeezed n xs ys zs p q h =
      let a : turns_of n ys ≡ turns_of n xs ++ turns_of n p.0 = sym (ap (turns_of n) p.1) ∙ turns_of-append n xs p.0 in
      let b : turns_of n zs ≡ turns_of n ys ++ turns_of n q.0 = sym (ap (turns_of n) q.1) ∙ turns_of-append n ys q.0 in
      let none : turns_of n q.0 ≡ [] = no_more (turns_of n q.0) (omega (arith, ap length a, ap length b, ap length h, length-append (turns_of n xs) (turns_of n p.0), length-append (turns_of n ys) (turns_of n q.0))) in
      b ∙ ap (λ (l : List (ℕ × List E)). turns_of n ys ++ l) none ∙ append-nil (turns_of n ys)

  -- a beginning that has all turns of a number: the turns after it have none
  pub none_after : (n : ℕ) (xs more : List (ℕ × List E)) → turns_of n (xs ++ more) ≡ turns_of n xs → turns_of n more ≡ []
  none_after n xs more h = after_itself (turns_of n xs) (turns_of n more) (sym (turns_of-append n xs more) ∙ h)

  -- the longer and the shorter of two beginnings of one history
  pub record Longer (xs ys zs : List (ℕ × List E)) (long short : List (ℕ × List E)) : Type 0 where
    pub first : IsPrefix xs long
    pub second : IsPrefix ys long
    pub begins : IsPrefix short long
    pub whole : IsPrefix long zs

  longer_by : (xs ys zs : List (ℕ × List E)) → IsPrefix xs zs → IsPrefix ys zs → (b : Bool) → ltb (length xs) (length ys) ≡ b → Longer xs ys zs (cond b ys xs) (cond b xs ys)
  longer_by xs ys zs p q true e = let le : length xs < length ys = ltb-true (length xs) (length ys) e in let r = both_begin xs ys zs p q (omega arith) in record { first = r; second = prefix_refl ys; begins = r; whole = q }
  longer_by xs ys zs p q false e = let r = both_begin ys xs zs q p (ltb-false (length xs) (length ys) e) in record { first = prefix_refl xs; second = r; begins = r; whole = p }

  pub longer_is : (xs ys zs : List (ℕ × List E)) → IsPrefix xs zs → IsPrefix ys zs → Longer xs ys zs (longer xs ys) (shorter xs ys)
  longer_is xs ys zs p q = longer_by xs ys zs p q (ltb (length xs) (length ys)) refl

-- The entries of one number, and histories one after another.
use Rattle.std.proofs.Common.{◌≡◌, ◌≢◌, ◌==◌, ℕ, List, [], ◌∷◌, ◌++◌, Bool, true, false, cond, refl, sym, ap, ◌∙◌, subst, eq-eqb, ne_eqb}
use mathlib.Core.Logic.{dite}
use native.Mathlib.Decide.{ℕ_discrete}
use Rattle.zot_history.specs.History.{Replays, entries_of, entries_where, signed}
use Rattle.zot_history.specs.Run.{IsAlikeFor, RunTo}
use Rattle.zot_history.proofs.Runs.{run_append, run_from, run_split, same_alike}

module _ {O E : Type 0} (step : O → ℕ → E → O → Type 0) where
  -- two histories, one after the other
  pub replays_append : (a m b : O) (xs ys : List (ℕ × E)) → Replays step a xs m → Replays step m ys b → Replays step a (xs ++ ys) b
  replays_append a m b xs ys h k = run_append _ _ (same_alike (λ before x after. step before x.0 x.1 after)) a m b xs ys h k

  -- a history, split at any place
  pub replays_split : (a b : O) (xs ys : List (ℕ × E)) → Replays step a (xs ++ ys) b → (m : O) × Replays step a xs m × Replays step m ys b
  replays_split a b xs ys h = run_split _ _ (same_alike (λ before x after. step before x.0 x.1 after)) a b xs ys h

-- an element stands before others, or not
pub cond_append : {A : Type 0} (b : Bool) (x : A) (l m k : List A) → l ≡ m ++ k → cond b (x ∷ l) l ≡ cond b (x ∷ m) m ++ k
cond_append true x l m k h = ap (λ r. x ∷ r) h
cond_append false x l m k h = h

module _ {K E : Type 0} (is_wanted : K → Bool) where
  pub entries_where-append : (xs ys : List (K × E)) → entries_where is_wanted (xs ++ ys) ≡ entries_where is_wanted xs ++ entries_where is_wanted ys
  entries_where-append [] ys = refl
  entries_where-append (x ∷ xs) ys = cond_append (is_wanted x.0) x.1 (entries_where is_wanted (xs ++ ys)) (entries_where is_wanted xs) (entries_where is_wanted ys) (entries_where-append xs ys)

module _ {E : Type 0} where
  pub entries_of-append : (n : ℕ) (xs ys : List (ℕ × E)) → entries_of n (xs ++ ys) ≡ entries_of n xs ++ entries_of n ys
  entries_of-append n xs ys = entries_where-append (λ m. m == n) xs ys

  -- an entry of the number is the first of its entries
  pub entries_of_first : (n : ℕ) (x : ℕ × E) (xs : List (ℕ × E)) → x.0 ≡ n → entries_of n (x ∷ xs) ≡ x.1 ∷ entries_of n xs
  entries_of_first n x xs is = ap (λ b. cond b (x.1 ∷ entries_of n xs) (entries_of n xs)) (eq-eqb x.0 n is)

  -- an entry of another number is none of them
  pub entries_of_later : (n : ℕ) (x : ℕ × E) (xs : List (ℕ × E)) → x.0 ≢ n → entries_of n (x ∷ xs) ≡ entries_of n xs
  entries_of_later n x xs apart = ap (λ b. cond b (x.1 ∷ entries_of n xs) (entries_of n xs)) (ne_eqb x.0 n apart)

  pub entries_of_signed : (n : ℕ) (es : List E) → entries_of n (signed n es) ≡ es
  entries_of_signed n [] = refl
  entries_of_signed n (e ∷ es) = entries_of_first n (n, e) (signed n es) refl ∙ ap (λ l. e ∷ l) (entries_of_signed n es)

  pub entries_of_others : (n m : ℕ) (es : List E) → m ≢ n → entries_of n (signed m es) ≡ []
  entries_of_others n m [] apart = refl
  entries_of_others n m (e ∷ es) apart = entries_of_later n (m, e) (signed m es) apart ∙ entries_of_others n m es apart

-- the entries of one number, taken out of a history, are a run of what is seen of its values, where no other entry changes what is seen
module _ {O E T : Type 0} (step : O → ℕ → E → O → Type 0) (Alike : T → T → Type 0) (small : T → E → T → Type 0) (alike : IsAlikeFor Alike small) (seen : O → T) (n : ℕ) where
  pub replays_taken : ((a b : O) (e : E) → step a n e b → small (seen a) e (seen b)) → ((a b : O) (m : ℕ) (e : E) → m ≢ n → step a m e b → Alike (seen a) (seen b))
      → (a b : O) (xs : List (ℕ × E)) → Replays step a xs b → RunTo Alike small (seen a) (entries_of n xs) (seen b)
  replays_taken own others a b [] h = subst (λ o. Alike (seen a) (seen o)) h (alike.itself (seen a))
  replays_taken own others a b (x ∷ xs) h =
      let rest = replays_taken own others h.0 b xs h.2 in
      dite (ℕ_discrete x.0 n)
      (λ (is : x.0 ≡ n). subst (λ l. RunTo Alike small (seen a) l (seen b)) (sym (entries_of_first n x xs is)) (seen h.0, own a h.0 x.1 (subst (λ m. step a m x.1 h.0) is h.1), rest))
      (λ (apart : x.0 ≢ n). subst (λ l. RunTo Alike small (seen a) l (seen b)) (sym (entries_of_later n x xs apart)) (run_from Alike small alike (seen a) (seen h.0) (seen b) (entries_of n xs) (others a h.0 x.0 x.1 apart h.1) rest))

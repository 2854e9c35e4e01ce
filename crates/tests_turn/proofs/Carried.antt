-- For the users of shared values: what each step keeps holds at the end of a history.
use Rattle.std.proofs.Common.{◌≡◌, ◌≢◌, ℕ, List, [], ◌∷◌, ◌++◌, Bool, cond, map, Option, Some, None, IsSomeAnd, sym, refl, ap, ◌∙◌, subst, append_assoc, append-nil, eq-eqb, ne_eqb}
use mathlib.Core.Logic.{dite}
use native.Mathlib.Decide.{ℕ_discrete}
use Rattle.zot_history.specs.History.{Replays, entries_of}
use Rattle.zot_turn.specs.Seats.{Home, Standing, Stands, IsLater, HasMade, acting, numbers, with_entries}
use Rattle.zot_history.proofs.Prefixes.{prefix_refl, prefix_trans}
use Rattle.zot_turn.proofs.Totals.{with_none, with_more}

module _ {O E : Type 0} (step : O → ℕ → E → O → Type 0) where
  -- a fact that each step carries on
  pub carried : (P : O → Type 0) → ((a b : O) (n : ℕ) (e : E) → step a n e b → P a → P b) → (a b : O) (es : List (ℕ × E)) → Replays step a es b → P a → P b
  carried P keeps a b [] h p = subst P h p
  carried P keeps a b (x ∷ xs) h p = carried P keeps h.0 b xs h.2 (keeps a h.0 x.0 x.1 h.1 p)

  -- a fact of the value and of what one number did, which steps of other numbers don't change
  pub carried_by : (n : ℕ) (P : List E → O → Type 0) → ((es : List E) (a b : O) (e : E) → step a n e b → P es a → P (es ++ e ∷ []) b) → ((es : List E) (a b : O) (m : ℕ) (e : E) → m ≢ n → step a m e b → P es a → P es b)
      → (done : List E) (a b : O) (es : List (ℕ × E)) → Replays step a es b → P done a → P (done ++ entries_of n es) b
  carried_by n P its others done a b [] h p = subst (λ (l : List E). P l b) (sym (append-nil done)) (subst (P done) h p)
  carried_by n P its others done a b (x ∷ xs) h p = dite (ℕ_discrete x.0 n)
      (λ (e : x.0 ≡ n).
      let q : P (done ++ x.1 ∷ []) h.0 = its done a h.0 x.1 (subst (λ (m : ℕ). step a m x.1 h.0) e h.1) p in
      let r : P ((done ++ x.1 ∷ []) ++ entries_of n xs) b = carried_by n P its others (done ++ x.1 ∷ []) h.0 b xs h.2 q in
      let same : (done ++ x.1 ∷ []) ++ entries_of n xs ≡ done ++ entries_of n (x ∷ xs) = append_assoc done (x.1 ∷ []) (entries_of n xs) ∙ ap (λ (t : Bool). done ++ cond t (x.1 ∷ entries_of n xs) (entries_of n xs)) (sym (eq-eqb x.0 n e)) in
      subst (λ (l : List E). P l b) same r)
      (λ (ne : x.0 ≢ n).
      let r : P (done ++ entries_of n xs) b = carried_by n P its others done h.0 b xs h.2 (others done a h.0 x.0 x.1 ne h.1 p) in
      subst (λ (l : List E). P l b) (ap (λ (t : Bool). done ++ cond t (x.1 ∷ entries_of n xs) (entries_of n xs)) (sym (ne_eqb x.0 n ne))) r)

  pub carried_from : (P : O → Type 0) → ((a b : O) (n : ℕ) (e : E) → step a n e b → P a → P b) → (opening : Option O) (b : O) (es : List (ℕ × E)) → IsSomeAnd opening (λ o. Replays step o es b) → IsSomeAnd opening P → P b
  carried_from P keeps None b es h p = absurd p
  carried_from P keeps (Some a) b es h p = carried P keeps a b es h p

  -- what holds of the opening value, and each step carries on, holds of the value that stands
  pub stands_with : (P : O → Type 0) → ((a b : O) (n : ℕ) (e : E) → step a n e b → P a → P b) → (home : Home O) (b : O) (es : List (ℕ × E)) → Stands step home es b → IsSomeAnd home.opening P → P b
  stands_with P keeps home b es h p = carried_from P keeps home.opening b es h p

module _ {O E : Type 0} where
  pub same_later : (s : Standing O E) → IsLater s s
  same_later s = record { home = refl; numbers = refl; gave = refl; turns = prefix_refl s.turns }

  pub later_later : (s t u : Standing O E) → IsLater s t → IsLater t u → IsLater s u
  later_later s t u a b = record { home = b.home ∙ a.home; numbers = b.numbers ∙ a.numbers; gave = b.gave ∙ a.gave; turns = prefix_trans s.turns t.turns u.turns a.turns b.turns }

  -- and acts in the same number
  pub later_acting : (s t : Standing O E) → IsLater s t → acting t.mine ≡ acting s.mine
  later_acting s t l = first_of t.mine s.mine l.numbers
    where
      first_of : (xs ys : List (ℕ × List E)) → numbers xs ≡ numbers ys → acting xs ≡ acting ys
      first_of [] [] e = refl
      first_of [] (y ∷ ys) e = absurd (cc e)
      first_of (x ∷ xs) [] e = absurd (cc e)
      first_of (x ∷ xs) (y ∷ ys) e = cc e

  pub made_none : (s : Standing O E) → HasMade [] s s
  made_none s = record { later = same_later s; mine = sym (with_none s.mine) }

  pub made_more : (xs ys : List E) (s t u : Standing O E) → HasMade xs s t → HasMade ys t u → HasMade (xs ++ ys) s u
  made_more xs ys s t u a b = record { later = later_later s t u a.later b.later; mine = b.mine ∙ ap (with_entries ys) a.mine ∙ with_more xs ys s.mine }

-- where each step only lets a seat inside the value see and make more, so does a history
pub inner_later : {V X O E : Type 0} (step : V → ℕ → X → V → Type 0) (seat : V → Standing O E) → ((a b : V) (n : ℕ) (e : X) → step a n e b → IsLater (seat a) (seat b)) → (a b : V) (es : List (ℕ × X)) → Replays step a es b → IsLater (seat a) (seat b)
inner_later step seat each a b es h = carried step (λ v. IsLater (seat a) (seat v)) (λ v w n e s l. later_later (seat a) (seat v) (seat w) l (each v w n e s)) a b es h (same_later (seat a))

-- what stands for a value that was opened with a known one
pub from_opening : {O E : Type 0} (step : O → ℕ → E → O → Type 0) (home : Home O) (opening value : O) (es : List (ℕ × E)) → home.opening ≡ Some opening → Stands step home es value → Replays step opening es value
from_opening {O} {E} step home opening value es is stands = subst (λ (o : Option O). IsSomeAnd o (λ v. Replays step v es value)) is stands

-- where a value that owns a seat stands, that seat is the one that it opened with, later
pub stands_later : {V X O E : Type 0} (step : V → ℕ → X → V → Type 0) (seat : V → Standing O E) → ((a b : V) (n : ℕ) (e : X) → step a n e b → IsLater (seat a) (seat b))
    → (home : Home V) (opening value : V) (es : List (ℕ × X)) → home.opening ≡ Some opening → Stands step home es value → IsLater (seat opening) (seat value)
stands_later step seat each home opening value es is stands = inner_later step seat each opening value es (from_opening step home opening value es is stands)

-- where each step's entry is the one that a seat inside the value made, a history's entries are those that it made
pub inner_made : {V O E : Type 0} (step : V → ℕ → E → V → Type 0) (seat : V → Standing O E) → ((a b : V) (n : ℕ) (e : E) → step a n e b → HasMade (e ∷ []) (seat a) (seat b))
    → (a b : V) (es : List (ℕ × E)) → Replays step a es b → HasMade (map (λ e. e.1) es) (seat a) (seat b)
inner_made step seat each a b [] h = subst (λ v. HasMade [] (seat a) (seat v)) h (made_none (seat a))
inner_made step seat each a b (x ∷ xs) h = made_more (x.1 ∷ []) (map (λ e. e.1) xs) (seat a) (seat h.0) (seat b) (each a h.0 x.0 x.1 h.1) (inner_made step seat each h.0 b xs h.2)

-- The parts of the rule under a change of one view.
use Rattle.std.proofs.Common.{◌≡◌, ◌≢◌, ◌<◌, ◌≤◌, ◌+◌, ◌*◌, ℕ, List, [], ◌∷◌, ◌++◌, Bool, true, false, cond, ltb, length, set, get_or, Option, Some, sym, refl, ap, ◌∙◌, subst, arith, ltb-true, eq-eqb, ne_eqb, ◌==◌, MatchBool, ⊎_elim, true≢false}
use Rattle.std.proofs.lemmas.List.{set-get_or}
use mathlib.Core.Logic.{dite}
use mathlib.Core.Option.{none, some, some-injective}
use native.Mathlib.Decide.{ℕ_discrete}
use lib.ListN.{get_elem?}
use Rattle.atomic_table.specs.Table.{State, Me}
use Rattle.atomic_table.proofs.Lists.{at_set, set_here, set_else, set_again}
use Rattle.zot_turn.specs.declared.known.Known.{Known}
use Rattle.zot_history.specs.History.{Replays}
use Rattle.zot_turn.specs.Turns.{history, turns_of}
use Rattle.zot_turn.specs.Seats.{numbers, acting}
use Rattle.zot_turn.specs.Steps.{times, total, once, blank, owned, Knows, Recorded, Kept, HasNumber}
use Rattle.zot_turn.proofs.Totals.{total_set, total_at, total_two, place_within, times_first, times-append, numbers-append, numbers_blank}

pub once_some : (b : Bool) → 0 < once b → b ≡ true
once_some true h = refl
once_some false h = absurd (omega arith)

pub once_le : (b : Bool) → once b ≤ 1
once_le true = omega arith
once_le false = omega arith

pub once_true : (b : Bool) → b ≡ true → once b ≡ 1
once_true b e = ap once e

pub once_false : (b : Bool) → b ≡ false → once b ≡ 0
once_false b e = ap once e

pub not_once : (b : Bool) → once b ≡ 0 → b ≡ false
not_once true h = absurd (omega arith)
not_once false h = refl

pub never : {A : Type 0} → false ≡ true → A
never e = absurd (true≢false (sym e))

pub acting_its : {E : Type 0} (mine : List (ℕ × List E)) → HasNumber mine → 0 < times (acting mine) (numbers mine)
acting_its [] h = absurd (omega (arith, h.1))
acting_its (m ∷ ms) h = times_first m.0 m.0 (numbers ms) refl

module _ {O E : Type 0} where
  pub numbers_owned : (v : Known O E) → numbers (owned v) ≡ numbers v.mine ++ v.ready
  numbers_owned v = numbers-append v.mine (blank v.ready) ∙ ap (λ (l : List ℕ). numbers v.mine ++ l) (numbers_blank E v.ready)

  pub times_owned : (n : ℕ) (v : Known O E) → times n (numbers (owned v)) ≡ times n (numbers v.mine) + times n v.ready
  times_owned n v = ap (times n) (numbers_owned v) ∙ times-append n (numbers v.mine) v.ready

  -- a view that stands at two places is one view
  pub one_view : (views : List (Known O E)) (i j : ℕ) (u v : Known O E) → i ≡ j → get_elem? views i ≡ some u → get_elem? views j ≡ some v → u ≡ v
  one_view views i j u v e a b = some-injective u v (sym (subst (λ (k : ℕ). get_elem? views k ≡ some u) e a) ∙ b)

  pub recorded_set : (n : ℕ) (views : List (Known O E)) (id : ℕ) (v w : Known O E) → get_elem? views id ≡ some v
      → ((m : ℕ) → times m (numbers v.mine) ≤ times m (numbers w.mine)) → ((m : ℕ) → times m (v.gave ++ v.ready) ≤ times m (w.gave ++ w.ready))
      → Recorded n views → Recorded n (set views id w)
  recorded_set n views id v w at by noted r = dite (ℕ_discrete r.id id)
      (λ (e : r.id ≡ id).
      let same : r.view ≡ v = one_view views r.id id r.view v e r.there at in
      let its : 0 < times r.by (numbers v.mine) = subst (λ (u : Known O E). 0 < times r.by (numbers u.mine)) same r.its in
      let gave : 0 < times n (v.gave ++ v.ready) = subst (λ (u : Known O E). 0 < times n (u.gave ++ u.ready)) same r.noted in
      record { id = id; view = w; by = r.by; there = set_here views id w (place_within views id v at); less = r.less; its = omega (arith, its, by r.by); noted = omega (arith, gave, noted n) })
      (λ (ne : r.id ≢ id). record { id = r.id; view = r.view; by = r.by; there = set_else views id r.id w ne ∙ r.there; less = r.less; its = r.its; noted = r.noted })

module _ {O E : Type 0} (step : O → ℕ → E → O → Type 0) (origin : O) where
  pub knows_set : (log : List (ℕ × List E)) (drawn : ℕ) (views : List (Known O E)) (id : ℕ) (w : Known O E)
      → ((j : ℕ) (u : Known O E) → j ≢ id → get_elem? views j ≡ some u → Knows origin log drawn u) → Knows origin log drawn w
      → (j : ℕ) (u : Known O E) → get_elem? (set views id w) j ≡ some u → Knows origin log drawn u
  knows_set log drawn views id w others mine j u e = ⊎_elim
      (λ (x : (j ≡ id) × (w ≡ u)). subst (Knows origin log drawn) x.1 mine)
      (λ (x : (j ≢ id) × (get_elem? views j ≡ some u)). others j u x.0 x.1)
      (at_set views id j w u e)

  -- the rule where the views alone are others
  pub reviewed : (s : State (Option O) (Known O E)) (k : Kept step origin s) (views : List (Known O E))
      → ((j : ℕ) (u : Known O E) → get_elem? views j ≡ some u → Knows origin k.log k.drawn u)
      → ((n : ℕ) → total (λ u. times n (numbers (owned u))) views ≡ total (λ u. times n (numbers (owned u))) s.views)
      → ((n : ℕ) → Recorded n s.views → Recorded n views)
      → total (λ u. once u.holding) views ≡ total (λ u. once u.holding) s.views
      → Kept step origin record { words = s.words; homes = s.homes; views = views }
  reviewed s k views known apart recorded holder = record {
    log = k.log;
    value = k.value;
    held = k.held;
    drawn = k.drawn;
    words = k.words;
    legal = k.legal;
    slot = k.slot;
    known = known;
    apart = λ n. apart n ∙ k.apart n;
    recorded = λ n l ne. recorded n (k.recorded n l ne);
    undrawn = k.undrawn;
    zero_drawn = k.zero_drawn;
    holder = holder ∙ k.holder;
  }

  -- the rule after a step that changes the words, the slot and one view
  pub changed : (s : State (Option O) (Known O E)) (k : Kept step origin s) (id : ℕ) (v w : Known O E) → get_elem? s.views id ≡ some v
      → (log : List (ℕ × List E)) (value : O) (held : Bool) (drawn : ℕ) (words : List ℕ) (homes : List (mathlib.Core.Option.Option (Option O)))
      → words ≡ (2 * length log + once held) ∷ drawn ∷ []
      → Replays step origin (history log) value
      → homes ≡ cond held none (some (Some value)) ∷ []
      → ((j : ℕ) (u : Known O E) → j ≢ id → get_elem? s.views j ≡ some u → Knows origin log drawn u)
      → Knows origin log drawn w
      → ((n : ℕ) → times n (numbers (owned w)) + once (ltb n k.drawn) ≡ times n (numbers (owned v)) + once (ltb n drawn))
      → ((n : ℕ) → n < drawn → n ≢ 0 → Recorded n (set s.views id w))
      → ((n : ℕ) → drawn ≤ n → turns_of n log ≡ [])
      → 0 < drawn
      → once w.holding + once k.held ≡ once v.holding + once held
      → Kept step origin record { words = words; homes = homes; views = set s.views id w }
  changed s k id v w at log value held drawn words homes ws legal slot others mine apart recorded undrawn positive holder = record {
    log = log;
    value = value;
    held = held;
    drawn = drawn;
    words = ws;
    legal = legal;
    slot = slot;
    known = knows_set log drawn s.views id w others mine;
    apart = λ n.
        let f : Known O E → ℕ = λ u. times n (numbers (owned u)) in
        omega (arith, total_set f s.views id v w at, k.apart n, apart n);
    recorded = recorded;
    undrawn = undrawn;
    zero_drawn = positive;
    holder =
        let f : Known O E → ℕ = λ u. once u.holding in
        omega (arith, total_set f s.views id v w at, k.holder, holder);
  }

  -- the rule after a step that changes nothing
  pub unchanged : (s : State (Option O) (Known O E)) → Kept step origin s → (i id : ℕ) (v : Known O E) → get_elem? s.views id ≡ some v
      → Kept step origin record { words = set s.words i (get_or s.words i 0); homes = s.homes; views = set s.views id v }
  unchanged s k i id v at = subst (Kept step origin) (λ j. record { words = sym (set-get_or s.words i 0) j; homes = s.homes; views = sym (set_again s.views id v at) j }) k

  module _ (s : State (Option O) (Known O E)) (k : Kept step origin s) where
    -- a number that a view has is drawn
    pub its_drawn : (n id : ℕ) (v : Known O E) → get_elem? s.views id ≡ some v → 0 < times n (numbers (owned v)) → n < k.drawn
    its_drawn n id v at h =
        let f : Known O E → ℕ = λ u. times n (numbers (owned u)) in
        ltb-true n k.drawn (once_some (ltb n k.drawn) (omega (arith, total_at f s.views id v at, k.apart n, h)))

    -- it stands there once
    pub its_once : (n id : ℕ) (v : Known O E) → get_elem? s.views id ≡ some v → times n (numbers (owned v)) ≤ 1
    its_once n id v at = let f : Known O E → ℕ = λ u. times n (numbers (owned u)) in omega (arith, total_at f s.views id v at, k.apart n, once_le (ltb n k.drawn))

    -- and in no other view
    pub its_alone : (n i j : ℕ) (v w : Known O E) → i ≢ j → get_elem? s.views i ≡ some v → get_elem? s.views j ≡ some w → times n (numbers (owned v)) + times n (numbers (owned w)) ≤ 1
    its_alone n i j v w ne a b = let f : Known O E → ℕ = λ u. times n (numbers (owned u)) in omega (arith, total_two f s.views i j v w ne a b, k.apart n, once_le (ltb n k.drawn))

    pub its_owned : (n : ℕ) (v : Known O E) → 0 < times n (numbers v.mine) → 0 < times n (numbers (owned v))
    its_owned n v h = omega (arith, times_owned n v, h)

    -- a view that holds the turn shows that it is held
    pub is_held : (id : ℕ) (v : Known O E) → get_elem? s.views id ≡ some v → v.holding ≡ true → k.held ≡ true
    is_held id v at h = let f : Known O E → ℕ = λ u. once u.holding in once_some k.held (omega (arith, total_at f s.views id v at, k.holder, once_true v.holding h))

    -- while no turn is held no view holds it
    pub none_holds : (id : ℕ) (v : Known O E) → get_elem? s.views id ≡ some v → k.held ≡ false → v.holding ≡ false
    none_holds id v at h = let f : Known O E → ℕ = λ u. once u.holding in not_once v.holding (omega (arith, total_at f s.views id v at, k.holder, once_false k.held h))

    pub other_holds_not : (i j : ℕ) (v w : Known O E) → i ≢ j → get_elem? s.views i ≡ some v → get_elem? s.views j ≡ some w → v.holding ≡ true → w.holding ≡ false
    other_holds_not i j v w ne a b h = let f : Known O E → ℕ = λ u. once u.holding in not_once w.holding (omega (arith, total_two f s.views i j v w ne a b, k.holder, once_le k.held, once_true v.holding h))

-- a seat that a step left as it was
pub same_still : {O E : Type 0} (now was first : Me (Option O) (Known O E)) → now ≡ was → was ≡ first → now ≡ first
same_still now was first a b = a ∙ b

-- what a compare and exchange says where it found the word expected, and where it did not
pub hit : (P Q : Type 0) (n old : ℕ) → n ≡ old → MatchBool (n == old) P Q → P
hit P Q n old e h = subst (λ (b : Bool). MatchBool b P Q) (eq-eqb n old e) h

pub missed : (P Q : Type 0) (n old : ℕ) → n ≢ old → MatchBool (n == old) P Q → Q
missed P Q n old ne h = subst (λ (b : Bool). MatchBool b P Q) (ne_eqb n old ne) h

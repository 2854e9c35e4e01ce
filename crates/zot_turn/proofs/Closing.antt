-- The last seat has every number, has seen every turn, and finds the value in its slot.
use Rattle.std.proofs.Common.{◌≡◌, ◌≢◌, ◌==◌, ◌<◌, ◌≤◌, ℕ, zero, suc, List, [], ◌∷◌, ◌++◌, Bool, true, false, cond, length, Option, Some, Contains, sym, refl, ap, ◌∙◌, subst, arith, append-nil, length-append, eq-eqb, lt_of_not-le}
use Rattle.std.specs.List.{AllByRecursion}
use mathlib.Core.Logic.{dite}
use mathlib.Core.Option.{none, some}
use native.Mathlib.Decide.{ℕ_discrete, dec_le}
use lib.ListN.{get_elem?}
use Rattle.atomic_table.specs.Table.{State}
use Rattle.zot_turn.specs.declared.known.Known.{Known}
use Rattle.zot_history.specs.History.{Replays, entries_of}
use Rattle.zot_turn.specs.Turns.{history, turns_of}
use Rattle.zot_turn.specs.Seats.{numbers, HasOwn}
use Rattle.zot_turn.specs.Steps.{times, once, blank, Kept}
use Rattle.zot_history.proofs.Prefixes.{no_more, after_itself}
use Rattle.zot_turn.proofs.Lists.{each_map, each_left}
use Rattle.zot_turn.proofs.Turns.{turns_of-append}
use Rattle.zot_turn.proofs.Totals.{times-append, times_contained, contained_times, each_number, total_some}
use Rattle.zot_turn.proofs.Changes.{once_some, once_true, never, one_view, its_drawn, its_alone, its_owned}

module _ {E : Type 0} where
  -- a number whose turns end with one has some
  pub stands_there : (t : ℕ × List E) (ts : List (ℕ × List E)) → turns_of t.0 (t ∷ ts) ≡ [] → ⊥
  stands_there t ts h = let e : turns_of t.0 (t ∷ ts) ≡ t ∷ turns_of t.0 ts = ap (λ (b : Bool). cond b (t ∷ turns_of t.0 ts) (turns_of t.0 ts)) (eq-eqb t.0 t.0 refl) in let c : t ∷ turns_of t.0 ts ≡ [] = sym e ∙ h in cc c

  tail_idle : (b : Bool) (t : ℕ × List E) (ts : List (ℕ × List E)) → cond b (t ∷ ts) ts ≡ [] → ts ≡ []
  tail_idle true t ts h = let c : t ∷ ts ≡ [] = h in absurd (cc c)
  tail_idle false t ts h = h

  -- where only numbers below d have turns, each turn is one of such a number
  each_below : (d : ℕ) (ts : List (ℕ × List E)) → ((n : ℕ) → d ≤ n → turns_of n ts ≡ []) → AllByRecursion (λ t. t.0 < d) ts
  each_below d [] h = tt
  each_below d (t ∷ ts) h = (dite (dec_le d t.0) (λ (l : d ≤ t.0). absurd (stands_there t ts (h t.0 l))) (λ n. lt_of_not-le n), each_below d ts (λ n l. tail_idle (t.0 == n) t (turns_of n ts) (h n l)))

-- what a closing shows: the value is there, and the seat has seen all
pub record Closes {O E : Type 0} (step : O → ℕ → E → O → Type 0) (origin : O) (Has : O → Type 0) (v : Known O E) : Type 0 where
  pub value : O
  pub there : Has value
  pub stood : Replays step origin (history v.turns) value
  pub all : AllByRecursion (λ t. Contains (numbers v.mine) t.0) v.turns
  pub own : HasOwn v.mine (history v.turns)
  pub shown : v.shown ≤ length v.turns

module _ {O E : Type 0} (step : O → ℕ → E → O → Type 0) (origin : O) where
  module _ (s : State (Option O) (Known O E)) (k : Kept step origin s) (id : ℕ) (v : Known O E) (at : get_elem? s.views id ≡ some v) (idle : v.holding ≡ false) (ready : v.ready ≡ [])
      (zero_its : Contains (numbers v.mine) 0) (gave_its : (n : ℕ) → Contains v.gave n → Contains (numbers v.mine) n) where
    -- a view with a number of the last seat is the last seat's
    its_view : (n j : ℕ) (u : Known O E) → get_elem? s.views j ≡ some u → 0 < times n (numbers u.mine) → 0 < times n (numbers v.mine) → u ≡ v
    its_view n j u there a b = dite (ℕ_discrete j id)
        (λ (e : j ≡ id). one_view s.views j id u v e there at)
        (λ (ne : j ≢ id). absurd (omega (arith, its_alone step origin s k n j id u v ne there at, its_owned step origin s k n u a, its_owned step origin s k n v b)))

    all_its : (b n : ℕ) → n < b → n < k.drawn → 0 < times n (numbers v.mine)
    all_its zero n l d = absurd (omega arith)
    all_its (suc b) n l d = dite (ℕ_discrete n 0)
        (λ (e : n ≡ 0). subst (λ (m : ℕ). 0 < times m (numbers v.mine)) (sym e) (times_contained 0 (numbers v.mine) zero_its))
        (λ (ne : n ≢ 0).
        let r = k.recorded n d ne in
        let less : r.by < n = r.less in
        let by : 0 < times r.by (numbers v.mine) = all_its b r.by (omega arith) (omega arith) in
        let same : r.view ≡ v = its_view r.by r.id r.view r.there r.its by in
        let noted : 0 < times n (v.gave ++ v.ready) = subst (λ (u : Known O E). 0 < times n (u.gave ++ u.ready)) same r.noted in
        let gave : 0 < times n v.gave = omega (arith, noted, times-append n v.gave v.ready, ap (times n) ready) in
        times_contained n (numbers v.mine) (gave_its n (contained_times n v.gave gave)))

    drawn_its : (n : ℕ) → n < k.drawn → 0 < times n (numbers v.mine)
    drawn_its n d = all_its (suc n) n (omega arith) d

    at_rest : (b : Bool) → k.held ≡ b → k.held ≡ false
    at_rest false e = e
    at_rest true e =
        let f : Known O E → ℕ = λ u. once u.holding in
        let found = total_some f s.views (omega (arith, k.holder, once_true k.held e)) in
        let busy : found.view.holding ≡ true = once_some found.view.holding found.some_of in
        let acts = (k.known found.id found.view found.there).acts busy in
        let its = its_owned step origin s k acts.0 found.view acts.1 in
        let mine = drawn_its acts.0 (its_drawn step origin s k acts.0 found.id found.view found.there its) in
        let same = its_view acts.0 found.id found.view found.there acts.1 mine in
        never (sym idle ∙ ap (λ (u : Known O E). u.holding) (sym same) ∙ busy)

    -- nothing stands after what the seat has seen
    none_after : (more : List (ℕ × List E)) → v.turns ++ more ≡ k.log → more ≡ []
    none_after [] e = refl
    none_after (t ∷ ts) e =
        let f = k.known id v at in
        let there : turns_of t.0 k.log ≡ turns_of t.0 v.turns ++ turns_of t.0 (t ∷ ts) = sym (ap (turns_of t.0) e) ∙ turns_of-append t.0 v.turns (t ∷ ts) in
        dite (dec_le k.drawn t.0)
        (λ (l : k.drawn ≤ t.0). absurd (stands_there t ts (no_more (turns_of t.0 (t ∷ ts)) (omega (arith, ap length (sym there ∙ k.undrawn t.0 l), length-append (turns_of t.0 v.turns) (turns_of t.0 (t ∷ ts)))))))
        (λ n.
        let its = drawn_its t.0 (lt_of_not-le n) in
        let whole : turns_of t.0 k.log ≡ turns_of t.0 v.turns = each_number (λ m. turns_of m k.log ≡ turns_of m v.turns) v.mine (each_left (λ m. turns_of m.0 k.log ≡ turns_of m.0 v.turns) v.mine (blank v.ready) f.whole) t.0 its in
        absurd (stands_there t ts (after_itself (turns_of t.0 v.turns) (turns_of t.0 (t ∷ ts)) (sym there ∙ whole))))

    seen_all : v.turns ≡ k.log
    seen_all = let p = (k.known id v at).seen in sym (append-nil v.turns) ∙ ap (λ (l : List (ℕ × List E)). v.turns ++ l) (sym (none_after p.0 p.1)) ∙ p.1

    pub closes_last : Closes step origin (λ x. s.homes ≡ some (Some x) ∷ []) v
    closes_last =
        let f = k.known id v at in
        let rests = at_rest k.held refl in
        record {
          value = k.value;
          there = k.slot ∙ ap (λ (b : Bool). cond b none (some (Some k.value)) ∷ []) rests;
          stood = subst (λ (l : List (ℕ × List E)). Replays step origin (history l) k.value) (sym seen_all) k.legal;
          all = each_map (λ t. t.0 < k.drawn) (λ t. Contains (numbers v.mine) t.0) v.turns (λ t l. contained_times t.0 (numbers v.mine) (drawn_its t.0 l)) (each_below k.drawn v.turns (λ n l. ap (turns_of n) seen_all ∙ k.undrawn n l));
          own = each_left (λ m. entries_of m.0 (history v.turns) ≡ m.1) v.mine (blank v.ready) f.own;
          shown = omega (arith, f.shown, ap length seen_all);
        }

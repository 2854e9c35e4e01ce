-- A seat gives its drawn number to a new seat.
use Rattle.std.proofs.Common.{◌≡◌, ◌==◌, ◌<◌, ◌+◌, ℕ, List, [], ◌∷◌, ◌++◌, cond, set, Option, refl, ap, ◌∙◌, subst, arith, append-nil, ⊎_elim}
use Rattle.std.specs.List.{AllByRecursion}
use mathlib.Core.Option.{some}
use lib.ListN.{get_elem?}
use Rattle.atomic_table.specs.Table.{State, Splits}
use Rattle.atomic_table.proofs.Lists.{at_snoc, at_longer}
use Rattle.zot_turn.specs.declared.known.Known.{Known}
use Rattle.zot_history.specs.History.{entries_of}
use Rattle.zot_turn.specs.Turns.{history, turns_of}
use Rattle.zot_turn.specs.Seats.{numbers}
use Rattle.zot_turn.specs.Steps.{times, once, blank, owned, Knows, Kept, giver, taker}
use Rattle.zot_history.proofs.Prefixes.{prefix_nil}
use Rattle.zot_turn.proofs.Lists.{each_append, each_left, each_right}
use Rattle.zot_turn.proofs.Totals.{times_first, numbers_blank, total_set, total_push}
use Rattle.zot_turn.proofs.Changes.{never, times_owned, recorded_set, knows_set, reviewed, its_drawn}

-- each of these is drawn, where what stands among them is
each_drawn : (d : ℕ) (ns : List ℕ) → ((n : ℕ) → 0 < times n ns → n < d) → AllByRecursion (λ n. n < d) ns
each_drawn d [] h = tt
each_drawn d (n ∷ ns) h = (h n (times_first n n ns refl), each_drawn d ns (λ m l. h m (let k : ℕ = cond (n == m) 1 0 in let g : 0 < k + times m ns = omega arith in g)))

module _ {O E : Type 0} (step : O → ℕ → E → O → Type 0) (origin : O) where
  module _ (s : State (Option O) (Known O E)) (k : Kept step origin s) (id : ℕ) (v : Known O E) (at : get_elem? s.views id ≡ some v) where
    knows_giver : Knows origin k.log k.drawn (giver v)
    knows_giver = let f = k.known id v at in record {
      opening = f.opening;
      seen = f.seen;
      beside = f.beside;
      whole = each_append (λ m. turns_of m.0 k.log ≡ turns_of m.0 v.turns) v.mine [] (each_left (λ m. turns_of m.0 k.log ≡ turns_of m.0 v.turns) v.mine (blank v.ready) f.whole) tt;
      own = each_append (λ m. entries_of m.0 (history v.turns) ≡ m.1) v.mine [] (each_left (λ m. entries_of m.0 (history v.turns) ≡ m.1) v.mine (blank v.ready) f.own) tt;
      given = each_append (λ n. n < k.drawn) v.gave v.ready f.given (each_drawn k.drawn v.ready (λ n l. its_drawn step origin s k n id v at (omega (arith, times_owned n v, l))));
      shown = f.shown;
      holds = f.holds;
      acts = f.acts;
    }

    knows_taker : Knows origin k.log k.drawn (taker v)
    knows_taker = let f = k.known id v at in record {
      opening = f.opening;
      seen = f.seen;
      beside = prefix_nil v.turns;
      whole = each_append (λ m. turns_of m.0 k.log ≡ turns_of m.0 v.turns) (blank v.ready) [] (each_right (λ m. turns_of m.0 k.log ≡ turns_of m.0 v.turns) v.mine (blank v.ready) f.whole) tt;
      own = each_append (λ m. entries_of m.0 (history v.turns) ≡ m.1) (blank v.ready) [] (each_right (λ m. entries_of m.0 (history v.turns) ≡ m.1) v.mine (blank v.ready) f.own) tt;
      given = tt;
      shown = f.shown;
      holds = λ h. never h;
      acts = λ h. never h;
    }

    times_giver : (n : ℕ) → times n (numbers (owned (giver v))) ≡ times n (numbers v.mine) + 0
    times_giver n = times_owned n (giver v)

    times_taker : (n : ℕ) → times n (numbers (owned (taker v))) ≡ times n v.ready + 0
    times_taker n = times_owned n (taker v) ∙ ap (λ (l : List ℕ). times n l + 0) (numbers_blank E v.ready)

  pub parts_seat : (id : ℕ) (v : Known O E) → Splits (Kept step origin) id v (giver v) (taker v)
  parts_seat id v s k at = reviewed step origin s k (set s.views id (giver v) ++ taker v ∷ [])
      (λ j u e. ⊎_elim
      (λ was. knows_set step origin k.log k.drawn s.views id (giver v) (λ i w ne a. k.known i w a) (knows_giver s k id v at) j u was)
      (λ (is : taker v ≡ u). subst (Knows origin k.log k.drawn) is (knows_taker s k id v at))
      (at_snoc (set s.views id (giver v)) (taker v) u j e))
      (λ n.
      let f : Known O E → ℕ = λ u. times n (numbers (owned u)) in
      omega (arith, total_push f (set s.views id (giver v)) (taker v), total_set f s.views id v (giver v) at, times_owned n v, times_giver s k id v at n, times_taker s k id v at n))
      (λ n had.
      let r = recorded_set n s.views id v (giver v) at (λ m. omega arith) (λ m. omega (arith, ap (times m) (append-nil (v.gave ++ v.ready)))) had in
      record { id = r.id; view = r.view; by = r.by; there = at_longer (set s.views id (giver v)) (taker v ∷ []) r.id r.view r.there; less = r.less; its = r.its; noted = r.noted })
      (let f : Known O E → ℕ = λ u. once u.holding in omega (arith, total_push f (set s.views id (giver v)) (taker v), total_set f s.views id v (giver v) at))

-- A seat takes in another.
use Rattle.std.proofs.Common.{◌≡◌, ◌≢◌, ◌<◌, ◌+◌, ℕ, List, [], ◌++◌, false, set, Option, sym, ap, ◌∙◌, subst, arith}
use Rattle.std.specs.List.{AllByRecursion}
use Rattle.std.proofs.lemmas.List.{map-append}
use mathlib.Core.Logic.{dite}
use mathlib.Core.List.{IsPrefix}
use mathlib.Core.Option.{some}
use native.Mathlib.Decide.{ℕ_discrete}
use lib.ListN.{get_elem?}
use Rattle.atomic_table.specs.Table.{State, Joins}
use Rattle.atomic_table.proofs.Lists.{set_here, set_else}
use Rattle.zot_turn.specs.declared.known.Known.{Known}
use Rattle.zot_history.specs.History.{entries_of}
use Rattle.zot_turn.specs.Turns.{history, turns_of}
use Rattle.zot_turn.specs.Seats.{numbers, HasOwn, longer, shorter}
use Rattle.zot_turn.specs.Steps.{times, once, blank, owned, Knows, Recorded, Kept, joined, spent_known}
use Rattle.zot_history.proofs.Prefixes.{prefix_refl, prefix_nil}
use Rattle.zot_turn.proofs.Lists.{each_map, each_zip, each_append, each_left, each_right}
use Rattle.zot_turn.proofs.Turns.{same_entries, squeezed, Longer, longer_is}
use Rattle.zot_turn.proofs.Totals.{times-append, numbers-append, total_set, place_within}
use Rattle.zot_turn.proofs.Changes.{once_false, never, times_owned, one_view, recorded_set, knows_set, reviewed}

module _ {A : Type 0} where
  -- two lists in two parts each, in the order of a join
  each_joined : (P : A → Type 0) (a b c d : List A) → AllByRecursion P (a ++ c) → AllByRecursion P (b ++ d) → AllByRecursion P ((a ++ b) ++ (c ++ d))
  each_joined P a b c d h k = each_append P (a ++ b) (c ++ d)
      (each_append P a b (each_left P a c h) (each_left P b d k))
      (each_append P c d (each_right P a c h) (each_right P b d k))

module _ {O E : Type 0} (step : O → ℕ → E → O → Type 0) (origin : O) where
  owned_joined : (v w : Known O E) → owned (joined v w) ≡ (v.mine ++ w.mine) ++ (blank v.ready ++ blank w.ready)
  owned_joined v w = ap (λ (l : List (ℕ × List E)). (v.mine ++ w.mine) ++ l) (map-append (λ m. (m, [])) v.ready w.ready)

  times_joined : (n : ℕ) (v w : Known O E) → times n (numbers (owned (joined v w))) ≡ times n (numbers (owned v)) + times n (numbers (owned w))
  times_joined n v w =
      let a = times_owned n (joined v w) in
      let b : times n (numbers (v.mine ++ w.mine)) ≡ times n (numbers v.mine) + times n (numbers w.mine) = ap (times n) (numbers-append v.mine w.mine) ∙ times-append n (numbers v.mine) (numbers w.mine) in
      omega (arith, a, b, times-append n v.ready w.ready, times_owned n v, times_owned n w)

  -- what a view knows of its numbers holds of a longer beginning
  grown_whole : (log long : List (ℕ × List E)) (v : Known O E) → IsPrefix v.turns long → IsPrefix long log → AllByRecursion (λ m. turns_of m.0 log ≡ turns_of m.0 v.turns) (owned v)
      → AllByRecursion (λ m. turns_of m.0 log ≡ turns_of m.0 long) (owned v)
  grown_whole log long v p q whole = each_map (λ m. turns_of m.0 log ≡ turns_of m.0 v.turns) (λ m. turns_of m.0 log ≡ turns_of m.0 long) (owned v) (λ m h. squeezed m.0 v.turns long log p q h) whole

  grown_own : (log long : List (ℕ × List E)) (v : Known O E) → IsPrefix v.turns long → IsPrefix long log → AllByRecursion (λ m. turns_of m.0 log ≡ turns_of m.0 v.turns) (owned v)
      → HasOwn (owned v) (history v.turns) → HasOwn (owned v) (history long)
  grown_own log long v p q whole own = each_zip (λ m. turns_of m.0 log ≡ turns_of m.0 v.turns) (λ m. entries_of m.0 (history v.turns) ≡ m.1) (λ m. entries_of m.0 (history long) ≡ m.1) (owned v)
      (λ m h had. same_entries m.0 long v.turns (sym (squeezed m.0 v.turns long log p q h) ∙ h) ∙ had) whole own

  knows_joined : (log : List (ℕ × List E)) (d : ℕ) (v w : Known O E) → v.holding ≡ false → Knows origin log d v → Knows origin log d w → Knows origin log d (joined v w)
  knows_joined log d v w idle f h =
      let l : Longer v.turns w.turns log (longer v.turns w.turns) (shorter v.turns w.turns) = longer_is v.turns w.turns log f.seen h.seen in
      let long = longer v.turns w.turns in
      record {
        opening = f.opening;
        seen = l.whole;
        beside = l.begins;
        whole = subst (AllByRecursion (λ (m : ℕ × List E). turns_of m.0 log ≡ turns_of m.0 long)) (sym (owned_joined v w))
            (each_joined (λ m. turns_of m.0 log ≡ turns_of m.0 long) v.mine w.mine (blank v.ready) (blank w.ready) (grown_whole log long v l.first l.whole f.whole) (grown_whole log long w l.second l.whole h.whole));
        own = subst (λ (ms : List (ℕ × List E)). HasOwn ms (history long)) (sym (owned_joined v w))
            (each_joined (λ m. entries_of m.0 (history long) ≡ m.1) v.mine w.mine (blank v.ready) (blank w.ready) (grown_own log long v l.first l.whole f.whole f.own) (grown_own log long w l.second l.whole h.whole h.own));
        given = each_append (λ n. n < d) v.gave w.gave f.given h.given;
        shown = omega (arith, f.shown, h.shown);
        holds = λ e. never (sym idle ∙ e);
        acts = λ e. never (sym idle ∙ e);
      }

  knows_spent : (log : List (ℕ × List E)) (d : ℕ) → Knows origin log d spent_known
  knows_spent log d = record {
    opening = λ o e. cc e;
    seen = prefix_nil log;
    beside = prefix_refl [];
    whole = tt;
    own = tt;
    given = tt;
    shown = omega arith;
    holds = λ h. never h;
    acts = λ h. never h;
  }

  module _ (id other : ℕ) (v w : Known O E) (idle : v.holding ≡ false) (free : w.holding ≡ false) where
    module _ (s : State (Option O) (Known O E)) (k : Kept step origin s) (at : get_elem? s.views id ≡ some v) (apart : ¬ (other ≡ id)) (there : get_elem? (set s.views id (joined v w)) other ≡ some w) where
      both : List (Known O E)
      both = set s.views id (joined v w)

      was : get_elem? s.views other ≡ some w
      was = sym (set_else s.views id other (joined v w) apart) ∙ there

      knows_both : (j : ℕ) (u : Known O E) → get_elem? (set s.views id (joined v w)) j ≡ some u → Knows origin k.log k.drawn u
      knows_both j u e = knows_set step origin k.log k.drawn s.views id (joined v w) (λ i x ne a. k.known i x a) (knows_joined k.log k.drawn v w idle (k.known id v at) (k.known other w was)) j u e

      -- a record of the seat that was taken in is one of the seat that took it in
      recorded_both : (n : ℕ) → Recorded n (set s.views id (joined v w)) → Recorded n (set (set s.views id (joined v w)) other spent_known)
      recorded_both n r = dite (ℕ_discrete r.id other)
          (λ (e : r.id ≡ other).
          let same : r.view ≡ w = one_view (set s.views id (joined v w)) r.id other r.view w e r.there there in
          let its : 0 < times r.by (numbers w.mine) = subst (λ (u : Known O E). 0 < times r.by (numbers u.mine)) same r.its in
          let noted : 0 < times n (w.gave ++ w.ready) = subst (λ (u : Known O E). 0 < times n (u.gave ++ u.ready)) same r.noted in
          record {
            id = id;
            view = joined v w;
            by = r.by;
            there = set_else (set s.views id (joined v w)) other id spent_known (λ q. apart (sym q)) ∙ set_here s.views id (joined v w) (place_within s.views id v at);
            less = r.less;
            its = omega (arith, its, ap (times r.by) (numbers-append v.mine w.mine), times-append r.by (numbers v.mine) (numbers w.mine));
            noted = omega (arith, noted, times-append n w.gave w.ready, times-append n (v.gave ++ w.gave) (v.ready ++ w.ready), times-append n v.gave w.gave, times-append n v.ready w.ready);
          })
          (λ (ne : r.id ≢ other). record { id = r.id; view = r.view; by = r.by; there = set_else (set s.views id (joined v w)) other r.id spent_known ne ∙ r.there; less = r.less; its = r.its; noted = r.noted })

      recorded_joined : (n : ℕ) → Recorded n s.views → Recorded n (set (set s.views id (joined v w)) other spent_known)
      recorded_joined n r = recorded_both n (recorded_set n s.views id v (joined v w) at
          (λ m. omega (arith, ap (times m) (numbers-append v.mine w.mine), times-append m (numbers v.mine) (numbers w.mine)))
          (λ m. omega (arith, times-append m v.gave v.ready, times-append m (v.gave ++ w.gave) (v.ready ++ w.ready), times-append m v.gave w.gave, times-append m v.ready w.ready)) r)

    pub joins_seats : Joins (Kept step origin) id v other w (joined v w) spent_known
    joins_seats s k at apart there = reviewed step origin s k (set (set s.views id (joined v w)) other spent_known)
        (knows_set step origin k.log k.drawn (set s.views id (joined v w)) other spent_known (λ j u ne e. knows_both s k at apart there j u e) (knows_spent k.log k.drawn))
        (λ n.
        let f : Known O E → ℕ = λ u. times n (numbers (owned u)) in
        omega (arith, total_set f (set s.views id (joined v w)) other w spent_known there, total_set f s.views id v (joined v w) at, times_joined n v w))
        (λ n r. recorded_joined s k at apart there n r)
        (let f : Known O E → ℕ = λ u. once u.holding in omega (arith, total_set f (set s.views id (joined v w)) other w spent_known there, total_set f s.views id v (joined v w) at, once_false w.holding free))

-- A seat gives the turn back, with the entries of its job.
use Rattle.std.proofs.Common.{◌≡◌, ◌≢◌, ◌<◌, ◌≤◌, ◌+◌, ℕ, List, [], ◌∷◌, ◌++◌, Bool, true, false, cond, ltb, length, set, Option, Some, sym, refl, ap, ◌∙◌, subst, arith, append-nil, length-append, eq-eqb}
use Rattle.std.specs.List.{AllByRecursion}
use mathlib.Core.Option.{some}
use Rattle.atomic_table.specs.Table.{Me, gives, rest, Allows, put_back}
use Rattle.zot_turn.specs.declared.known.Known.{Known}
use Rattle.zot_history.specs.History.{Replays, signed, entries_of}
use Rattle.zot_turn.specs.Turns.{history, turns_of}
use Rattle.zot_turn.specs.Seats.{numbers, acting, with_entries, HasOwn}
use Rattle.zot_turn.specs.Steps.{times, once, blank, owned, Knows, Kept, HasNumber, MayGive, after_turn}
use Rattle.zot_history.proofs.Prefixes.{prefix_more}
use Rattle.zot_turn.proofs.Lists.{each_all, each_zip}
use Rattle.zot_history.proofs.Histories.{replays_append, entries_of-append, entries_of_signed, entries_of_others}
use Rattle.zot_turn.proofs.Turns.{history_push, turns_of-append, turns_of_other}
use Rattle.zot_turn.proofs.Totals.{numbers_with, each_of_numbers}
use Rattle.zot_turn.proofs.Changes.{once_true, never, acting_its, numbers_owned, recorded_set, changed, its_drawn, its_once, its_alone, its_owned, is_held, other_holds_not}

-- a number that stands first and once stands nowhere else
alone_after : (n : ℕ) (ns : List ℕ) → times n (n ∷ ns) ≤ 1 → times n ns ≡ 0
alone_after n ns h = let first : times n (n ∷ ns) ≡ 1 + times n ns = ap (λ (b : Bool). cond b 1 0 + times n ns) (eq-eqb n n refl) in omega (arith, first, h)

module _ {E : Type 0} where
  -- the acting number gets these entries after those that it has, and the other numbers keep theirs
  pub own_after : (es : List E) (mine more : List (ℕ × List E)) (turns : List (ℕ × List E)) → HasNumber mine → times (acting mine) (numbers (mine ++ more)) ≤ 1
      → HasOwn (mine ++ more) (history turns) → HasOwn (with_entries es mine ++ more) (history (turns ++ (acting mine, es) ∷ []))
  own_after es [] more turns acts once_there own = absurd (omega (arith, acts.1))
  own_after es (m ∷ ms) more turns acts once_there own =
      let n : ℕ = m.0 in
      let whole : history (turns ++ (n, es) ∷ []) ≡ history turns ++ signed n es = history_push turns n es in
      let alone : times n (numbers (ms ++ more)) ≡ 0 = alone_after n (numbers (ms ++ more)) once_there in
      let others : AllByRecursion (λ (x : ℕ × List E). x.0 ≢ n) (ms ++ more) = each_of_numbers (λ k. k ≢ n) (ms ++ more) (λ k l e. absurd (omega (arith, alone, subst (λ (j : ℕ). 0 < times j (numbers (ms ++ more))) e l))) in (
        ap (entries_of n) whole ∙ entries_of-append n (history turns) (signed n es) ∙ (λ i. own.0 i ++ entries_of_signed n es i),
        each_zip (λ (x : ℕ × List E). x.0 ≢ n) (λ x. entries_of x.0 (history turns) ≡ x.1) (λ x. entries_of x.0 (history (turns ++ (n, es) ∷ [])) ≡ x.1) (ms ++ more)
            (λ x ne had. ap (entries_of x.0) whole ∙ entries_of-append x.0 (history turns) (signed n es) ∙ (λ i. had i ++ entries_of_others x.0 n es (λ e. ne (sym e)) i) ∙ append-nil x.1)
            others own.1,
      )

module _ {O E : Type 0} (step : O → ℕ → E → O → Type 0) (origin : O) where
  -- a view that isn't the acting one's fits the longer history
  knows_other : (log : List (ℕ × List E)) (drawn n : ℕ) (es : List E) (u : Known O E) → u.holding ≡ false → times n (numbers (owned u)) ≡ 0 → Knows origin log drawn u → Knows origin (log ++ (n, es) ∷ []) drawn u
  knows_other log drawn n es u idle apart f =
      let others : AllByRecursion (λ (m : ℕ × List E). m.0 ≢ n) (owned u) = each_of_numbers (λ k. k ≢ n) (owned u) (λ k l e. absurd (omega (arith, apart, subst (λ (j : ℕ). 0 < times j (numbers (owned u))) e l))) in
      record {
        opening = f.opening;
        seen = prefix_more u.turns log ((n, es) ∷ []) f.seen;
        beside = f.beside;
        whole = each_zip (λ (m : ℕ × List E). m.0 ≢ n) (λ m. turns_of m.0 log ≡ turns_of m.0 u.turns) (λ m. turns_of m.0 (log ++ (n, es) ∷ []) ≡ turns_of m.0 u.turns) (owned u)
            (λ m ne had. turns_of-append m.0 log ((n, es) ∷ []) ∙ (λ i. had i ++ turns_of_other m.0 n es (λ e. ne (sym e)) i) ∙ append-nil (turns_of m.0 u.turns))
            others f.whole;
        own = f.own;
        given = f.given;
        shown = omega (arith, f.shown, length-append log ((n, es) ∷ []));
        holds = λ h. never (sym idle ∙ h);
        acts = λ h. never (sym idle ∙ h);
      }

  numbers_after : (es : List E) (v : Known O E) → numbers (owned (after_turn es v)) ≡ numbers (owned v)
  numbers_after es v = numbers_owned (after_turn es v) ∙ ap (λ (l : List ℕ). l ++ v.ready) (numbers_with es v.mine) ∙ sym (numbers_owned v)

  knows_after : (log : List (ℕ × List E)) (drawn : ℕ) (es : List E) (v : Known O E) → v.turns ≡ log → HasNumber v.mine → times (acting v.mine) (numbers (owned v)) ≤ 1 → Knows origin log drawn v
      → Knows origin (log ++ (acting v.mine, es) ∷ []) drawn (after_turn es v)
  knows_after log drawn es v all acts once_there f =
      let t : List (ℕ × List E) = (acting v.mine, es) ∷ [] in
      let same : v.turns ++ t ≡ log ++ t = ap (λ (l : List (ℕ × List E)). l ++ t) all in
      record {
        opening = f.opening;
        seen = ([], append-nil (v.turns ++ t) ∙ same);
        beside = prefix_more v.beside v.turns t f.beside;
        whole = each_all (λ m. turns_of m.0 (log ++ t) ≡ turns_of m.0 (v.turns ++ t)) (owned (after_turn es v)) (λ m. sym (ap (turns_of m.0) same));
        own = own_after es v.mine (blank v.ready) v.turns acts once_there f.own;
        given = f.given;
        shown = omega (arith, f.shown, length-append log t);
        holds = λ h. never h;
        acts = λ h. never h;
      }

  module _ (found new id slots : ℕ) (es : List E) (me : Me (Option O) (Known O E)) (may : MayGive step origin es found me) (two : new ≡ found + 2) where
    pub gives_turn : Allows (Kept step origin) slots id me 0 (λ _. new) (λ _ now. now ≡ (after_turn es me.0, rest me.1))
    gives_turn s k long at fits =
        let f = k.known id me.0 at in
        let n : ℕ = acting me.0.mine in
        let t : List (ℕ × List E) = (n, es) ∷ [] in
        let all : me.0.turns ≡ k.log = f.holds may.holding in
        let held : k.held ≡ true = is_held step origin s k id me.0 at may.holding in
        let acts : HasNumber me.0.mine = f.acts may.holding in
        let its : 0 < times n (numbers (owned me.0)) = its_owned step origin s k n me.0 (acting_its me.0.mine acts) in
        let below : n < k.drawn = its_drawn step origin s k n id me.0 at its in
        let w = after_turn es me.0 in
        let legal : Replays step origin (history (k.log ++ t)) may.after =
        subst (λ (h : List (ℕ × E)). Replays step origin h may.after) (sym (history_push k.log n es))
        (replays_append step origin may.before may.after (history k.log) (signed n es) (subst (λ (l : List (ℕ × List E)). Replays step origin (history l) may.before) all may.stood) may.made) in (
          w,
          gives,
          tt,
          changed step origin s k id me.0 w at (k.log ++ t) may.after false k.drawn (set s.words 0 new) (put_back s.homes me.1)
              (ap (λ (l : List ℕ). set l 0 new) k.words ∙ ap (λ (x : ℕ). x ∷ k.drawn ∷ []) (omega (arith, two, may.count, ap length all, length-append k.log t)))
              legal
              (ap (put_back s.homes) may.slot ∙ ap (λ h. set h 0 (some (Some may.after))) k.slot)
              (λ j u ne a. knows_other k.log k.drawn n es u (other_holds_not step origin s k id j me.0 u (λ e. ne (sym e)) at a may.holding)
              (let alone = its_alone step origin s k n id j me.0 u (λ e. ne (sym e)) at a in omega arith) (k.known j u a))
              (knows_after k.log k.drawn es me.0 all acts (its_once step origin s k n id me.0 at) f)
              (λ m. ap (λ (l : List ℕ). times m l + once (ltb m k.drawn)) (numbers_after es me.0))
              (λ m l ne. recorded_set m s.views id me.0 w at (λ j. let e = ap (times j) (numbers_with es me.0.mine) in omega arith) (λ j. omega arith) (k.recorded m l ne))
              (λ m l. turns_of-append m k.log t ∙ (λ i. k.undrawn m l i ++ turns_of_other m n es (λ e. absurd (omega arith)) i))
              k.zero_drawn
              (omega (arith, once_true k.held held, once_true me.0.holding may.holding)),
          refl,
        )

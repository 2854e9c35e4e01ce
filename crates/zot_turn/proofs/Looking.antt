-- A seat looks at the count of turns; and after a join it learns which beginning was the longer.
use Rattle.std.proofs.Common.{◌≡◌, ◌+◌, ◌*◌, ◌/◌, ℕ, max, List, [], ◌++◌, Bool, true, false, ltb, length, set, get_or, Option, sym, subst, refl, ap, ◌∙◌, arith}
use Rattle.std.proofs.lemmas.List.{set-get_or}
use mathlib.Core.Option.{none, some}
use lib.ListN.{get_elem?}
use Rattle.atomic_table.specs.Table.{State, Me, Step, Act, keeps, takes, gives, rest, Allows, Splits, Joins, Final, Seen, put_back}
use Rattle.zot_turn.specs.declared.known.Known.{Known}
use Rattle.zot_history.specs.History.{Replays, entries_of}
use Rattle.zot_turn.specs.Turns.{history}
use Rattle.zot_turn.specs.Seats.{numbers}
use Rattle.zot_turn.specs.Steps.{times, once, blank, owned, Knows, Kept, Looks, Settles}
use Rattle.zot_history.proofs.Prefixes.{prefix_nil}
use Rattle.zot_turn.proofs.Lists.{each_left}
use Rattle.zot_history.proofs.Histories.{replays_split}
use Rattle.zot_turn.proofs.Turns.{history-append}
use Rattle.zot_turn.proofs.Changes.{times_owned, recorded_set, changed, its_once}

half_of : (n : ℕ) (b : Bool) (word : ℕ) → word ≡ 2 * n + once b → word / 2 ≡ n
half_of n true word w = omega arith
half_of n false word w = omega arith

module _ {O E : Type 0} (step : O → ℕ → E → O → Type 0) (origin : O) where
  -- a look changes the view alone, in what no other part of the rule reads
  looked : (s : State (Option O) (Known O E)) (k : Kept step origin s) (id : ℕ) (v w : Known O E) → get_elem? s.views id ≡ some v → Knows origin k.log k.drawn w
      → owned w ≡ owned v → w.mine ≡ v.mine → w.gave ++ w.ready ≡ v.gave ++ v.ready → w.holding ≡ v.holding
      → Kept step origin record { words = set s.words 0 (get_or s.words 0 0); homes = s.homes; views = set s.views id w }
  looked s k id v w at fits owns mine gave holding = changed step origin s k id v w at k.log k.value k.held k.drawn (set s.words 0 (get_or s.words 0 0)) s.homes
      (set-get_or s.words 0 0 ∙ k.words)
      k.legal
      k.slot
      (λ j u ne a. k.known j u a)
      fits
      (λ n. ap (λ (l : List (ℕ × List E)). times n (numbers l) + once (ltb n k.drawn)) owns)
      (λ n l ne. recorded_set n s.views id v w at (λ m. let e = ap (λ (l : List (ℕ × List E)). times m (numbers l)) mine in omega (arith, e)) (λ m. let e = ap (times m) gave in omega (arith, e)) (k.recorded n l ne))
      k.undrawn
      k.zero_drawn
      (ap (λ (b : Bool). once b + once k.held) holding)

  pub looks_on : (id slots : ℕ) (me : Me (Option O) (Known O E)) → Allows (Kept step origin) slots id me 0 (λ n. n) (Looks (Rattle.atomic_table.specs.Table.step slots 0 0 0 none) me)
  looks_on id slots me s k long at fits =
      let f = k.known id me.0 at in
      let word : get_or s.words 0 0 ≡ 2 * length k.log + once k.held = ap (λ (l : List ℕ). get_or l 0 0) k.words in
      let count : get_or s.words 0 0 / 2 ≡ length k.log = half_of (length k.log) k.held (get_or s.words 0 0) word in
      let w : Known O E = record me.0 { shown = max me.0.shown (get_or s.words 0 0 / 2) } in
      (w, keeps, tt, looked s k id me.0 w at (record { opening = f.opening; seen = f.seen; beside = f.beside; whole = f.whole; own = f.own; given = f.given; shown = omega (arith, f.shown, count); holds = f.holds; acts = f.acts }) refl refl refl refl, refl)

  pub settles_on : (id slots : ℕ) (me : Me (Option O) (Known O E)) → Allows (Kept step origin) slots id me 0 (λ n. n) (Settles step (Rattle.atomic_table.specs.Table.step slots 0 0 0 none) me)
  settles_on id slots me s k long at fits =
      let f = k.known id me.0 at in
      let w : Known O E = record me.0 { beside = [] } in (
        w,
        keeps,
        tt,
        looked s k id me.0 w at (record { opening = f.opening; seen = f.seen; beside = prefix_nil me.0.turns; whole = f.whole; own = f.own; given = f.given; shown = f.shown; holds = f.holds; acts = f.acts }) refl refl refl refl,
        record {
          view = refl;
          begins = f.beside;
          own = each_left (λ m. entries_of m.0 (history me.0.turns) ≡ m.1) me.0.mine (blank me.0.ready) f.own;
          apart = λ n. omega (arith, its_once step origin s k n id me.0 at, times_owned n me.0);
          legal = λ o e.
              let more = f.seen.0 in
              let whole : Replays step origin (history me.0.turns ++ history more) k.value = subst (λ (h : List (ℕ × E)). Replays step origin h k.value) (sym (ap history f.seen.1) ∙ history-append me.0.turns more) k.legal in
              let r = replays_split step origin k.value (history me.0.turns) (history more) whole in
              (r.0, subst (λ (p : O). Replays step p (history me.0.turns) r.0) (sym (f.opening o e)) r.1);
        },
      )

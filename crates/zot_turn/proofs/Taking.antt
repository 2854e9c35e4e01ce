-- A seat takes the turn, and the value out of its slot.
use Rattle.std.proofs.Common.{◌≡◌, ◌≢◌, ◌==◌, ◌+◌, ◌*◌, ◌%◌, ℕ, List, [], ◌∷◌, ◌++◌, Bool, true, false, cond, length, set, get_or, Option, Some, MatchBool, sym, refl, ap, ◌∙◌, subst, arith, append-nil, eqb-true}
use Rattle.std.specs.List.{AllByRecursion}
use mathlib.Core.Option.{none, some}
use lib.ListN.{get_elem?}
use prog.Atomic.{either}
use Rattle.atomic_table.specs.Table.{State, Me, Step, Act, keeps, takes, gives, rest, Allows, Splits, Joins, Final, Seen, put_back}
use Rattle.zot_turn.specs.declared.known.Known.{Known}
use Rattle.zot_history.specs.History.{Replays, entries_of}
use Rattle.zot_turn.specs.Turns.{history, turns_of}
use Rattle.zot_turn.specs.Seats.{HasOwn}
use Rattle.zot_turn.specs.Steps.{once, blank, owned, Knows, Kept, HasNumber, TakesTurn, TakesTurnOrNot}
use Rattle.zot_history.proofs.Prefixes.{prefix_more}
use Rattle.zot_turn.proofs.Lists.{each_all, each_map, each_zip, each_left}
use Rattle.zot_turn.proofs.Turns.{same_entries, none_after}
use Rattle.zot_turn.proofs.Changes.{once_false, times_owned, recorded_set, changed, unchanged, its_once, none_holds, hit, missed}

-- the word is even just where no turn is held
even_rests : (n : ℕ) (b : Bool) (word : ℕ) → word ≡ 2 * n + once b → word % 2 ≡ 0 → b ≡ false
even_rests n true word w even = absurd (omega arith)
even_rests n false word w even = refl

module _ {O E : Type 0} (step : O → ℕ → E → O → Type 0) (origin : O) where
  -- what a view becomes when it has seen all and holds the turn
  abbrev holder : Known O E → List (ℕ × List E) → Known O E
  holder v more = record v { turns = v.turns ++ more; holding = true }

  all_entries : (log : List (ℕ × List E)) (v : Known O E) → (more : List (ℕ × List E)) → v.turns ++ more ≡ log → (mine : List (ℕ × List E))
      → AllByRecursion (λ m. turns_of m.0 log ≡ turns_of m.0 v.turns) mine → HasOwn mine (history v.turns) → HasOwn mine (history (v.turns ++ more))
  all_entries log v more is mine whole own = each_zip (λ m. turns_of m.0 log ≡ turns_of m.0 v.turns) (λ m. entries_of m.0 (history v.turns) ≡ m.1) (λ m. entries_of m.0 (history (v.turns ++ more)) ≡ m.1) mine
      (λ m a b. same_entries m.0 (v.turns ++ more) v.turns (ap (turns_of m.0) is ∙ a) ∙ b) whole own

  knows_holder : (log : List (ℕ × List E)) (drawn : ℕ) (v : Known O E) (f : Knows origin log drawn v) → HasNumber v.mine → Knows origin log drawn (holder v f.seen.0)
  knows_holder log drawn v f acts = record {
    opening = f.opening;
    seen = ([], append-nil (v.turns ++ f.seen.0) ∙ f.seen.1);
    beside = prefix_more v.beside v.turns f.seen.0 f.beside;
    whole = each_all (λ m. turns_of m.0 log ≡ turns_of m.0 (v.turns ++ f.seen.0)) (owned v) (λ m. sym (ap (turns_of m.0) f.seen.1));
    own = all_entries log v f.seen.0 f.seen.1 (owned v) f.whole f.own;
    given = f.given;
    shown = f.shown;
    holds = λ _. f.seen.1;
    acts = λ _. acts;
  }

  module _ (old id slots : ℕ) (me : Me (Option O) (Known O E)) (acts : HasNumber me.0.mine) (even : old % 2 ≡ 0) where
    module _ (s : State (Option O) (Known O E)) (k : Kept step origin s) (at : get_elem? s.views id ≡ some me.0) where
      -- what the step has to show, where b says whether the word was the one expected
      abbrev Goal : Bool → Type 0
      Goal b = (w : Known O E) × (a : Act (Option O)) × Rattle.atomic_table.specs.Table.Valid s.homes me.1 a
          × Kept step origin (Rattle.atomic_table.specs.Table.stepped s 0 (either b (old + 1) (get_or s.words 0 0)) id me.1 w a)
          × MatchBool b (TakesTurn step (get_or s.words 0 0) me (w, Rattle.atomic_table.specs.Table.carried_after me.1 a)) ((w, Rattle.atomic_table.specs.Table.carried_after me.1 a) ≡ me)

      taking : (b : Bool) → (get_or s.words 0 0 == old) ≡ b → Goal b
      taking false e = (me.0, keeps, tt, unchanged step origin s k 0 id me.0 at, refl)
      taking true e =
          let f = k.known id me.0 at in
          let more = f.seen.0 in
          let word : get_or s.words 0 0 ≡ 2 * length k.log + once k.held = ap (λ (l : List ℕ). get_or l 0 0) k.words in
          let found : get_or s.words 0 0 ≡ old = eqb-true (get_or s.words 0 0) old e in
          let rests : k.held ≡ false = even_rests (length k.log) k.held old (sym found ∙ word) even in
          let none_held = once_false k.held rests in
          let home : s.homes ≡ some (Some k.value) ∷ [] = k.slot ∙ ap (λ (b : Bool). cond b none (some (Some k.value)) ∷ []) rests in
          let idle : me.0.holding ≡ false = none_holds step origin s k id me.0 at rests in
          let w = holder me.0 more in
          let long : length (me.0.turns ++ more) ≡ length k.log = ap length f.seen.1 in (
            w,
            takes 0 (Some k.value),
            ap (λ h. get_elem? h 0) home,
            changed step origin s k id me.0 w at k.log k.value true k.drawn (set s.words 0 (old + 1)) (set s.homes 0 none)
                (ap (λ (l : List ℕ). set l 0 (old + 1)) k.words ∙ ap (λ (n : ℕ). n ∷ k.drawn ∷ []) (omega arith))
                k.legal
                (ap (λ h. set h 0 none) home)
                (λ j u ne a. k.known j u a)
                (knows_holder k.log k.drawn me.0 f acts)
                (λ n. refl)
                (λ n l ne. recorded_set n s.views id me.0 w at (λ m. omega arith) (λ m. omega arith) (k.recorded n l ne))
                k.undrawn
                k.zero_drawn
                (omega (arith, none_held, once_false me.0.holding idle)),
            record {
              others = more;
              value = k.value;
              view = refl;
              slot = refl;
              stood = λ o e. subst (λ (p : O). Replays step p (history (me.0.turns ++ more)) k.value) (sym (f.opening o e)) (subst (λ (l : List (ℕ × List E)). Replays step origin (history l) k.value) (sym f.seen.1) k.legal);
              elsewhere = each_map (λ m. turns_of m.0 k.log ≡ turns_of m.0 me.0.turns) (λ m. turns_of m.0 more ≡ []) me.0.mine (λ m h. none_after m.0 me.0.turns more (ap (turns_of m.0) f.seen.1 ∙ h)) (each_left (λ m. turns_of m.0 k.log ≡ turns_of m.0 me.0.turns) me.0.mine (blank me.0.ready) f.whole);
              own = all_entries k.log me.0 more f.seen.1 me.0.mine (each_left (λ m. turns_of m.0 k.log ≡ turns_of m.0 me.0.turns) me.0.mine (blank me.0.ready) f.whole) (each_left (λ m. entries_of m.0 (history me.0.turns) ≡ m.1) me.0.mine (blank me.0.ready) f.own);
              apart = λ n. omega (arith, its_once step origin s k n id me.0 at, times_owned n me.0);
              shown = omega (arith, f.shown, long);
              count = omega (arith, word, none_held, long);
            },
          )

    pub takes_turn : Allows (Kept step origin) slots id me 0 (λ n. either (n == old) (old + 1) n) (TakesTurnOrNot step (Rattle.atomic_table.specs.Table.step slots 0 old (old + 1) none) me)
    takes_turn s k long at fits = taking s k at (get_or s.words 0 0 == old) refl

    -- what the step says where it found the word expected, and where it did not
    pub took : (found : ℕ) (now : Me (Option O) (Known O E)) → found ≡ old → TakesTurnOrNot step (Rattle.atomic_table.specs.Table.step slots 0 old (old + 1) none) me found now → TakesTurn step old me now
    took found now e h = subst (λ (n : ℕ). TakesTurn step n me now) e (hit (TakesTurn step found me now) (now ≡ me) found old e h)

    pub not_taken : (found : ℕ) (now : Me (Option O) (Known O E)) → found ≢ old → TakesTurnOrNot step (Rattle.atomic_table.specs.Table.step slots 0 old (old + 1) none) me found now → now ≡ me
    not_taken found now ne h = missed (TakesTurn step found me now) (now ≡ me) found old ne h

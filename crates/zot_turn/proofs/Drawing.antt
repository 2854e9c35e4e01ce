-- A seat draws a number.
use Rattle.std.proofs.Common.{◌≡◌, ◌≢◌, ◌==◌, ◌<◌, ◌≤◌, ◌+◌, ℕ, List, [], ◌∷◌, ◌++◌, Bool, true, false, ltb, set, get_or, Option, MatchBool, sym, refl, ap, ◌∙◌, subst, arith, append_assoc, lt-ltb, le-ltb, eqb-true, lt_of_not-le}
use Rattle.std.specs.List.{AllByRecursion}
use Rattle.std.proofs.lemmas.List.{map-append}
use mathlib.Core.Logic.{dite}
use mathlib.Core.Option.{none, some}
use native.Mathlib.Decide.{ℕ_discrete, dec_le}
use lib.ListN.{get_elem?}
use prog.Atomic.{either}
use Rattle.atomic_table.specs.Table.{State, Me, Step, Act, keeps, takes, gives, rest, Allows, Splits, Joins, Final, Seen, put_back}
use Rattle.atomic_table.proofs.Lists.{set_here}
use Rattle.zot_turn.specs.declared.known.Known.{Known}
use Rattle.zot_history.specs.History.{entries_of}
use Rattle.zot_turn.specs.Turns.{history, turns_of}
use Rattle.zot_turn.specs.Seats.{numbers, acting, HasOwn}
use Rattle.zot_turn.specs.Steps.{times, once, blank, owned, Knows, Recorded, Kept, HasNumber, Drawn, Draws}
use Rattle.zot_turn.proofs.Lists.{each_map, each_append}
use Rattle.zot_turn.proofs.Turns.{idle_entries, idle_begin}
use Rattle.zot_turn.proofs.Totals.{times-append, times_one, times_other, times_rest, numbers-append, total_at, place_within}
use Rattle.zot_turn.proofs.Changes.{acting_its, recorded_set, changed, unchanged, its_drawn, its_owned, hit, missed}

-- a number that is above all of these isn't among them
none_given : (d : ℕ) (ns : List ℕ) → AllByRecursion (λ n. n < d) ns → times d ns ≡ 0
none_given d [] h = refl
none_given d (n ∷ ns) h = let below : n < d = h.0 in let r = none_given d ns h.1 in let e = times_rest d n ns (λ (e : n ≡ d). absurd (omega arith)) in omega (arith, r, e)

once_same : (n old : ℕ) → old ≢ n → once (ltb n (old + 1)) ≡ once (ltb n old)
once_same n old ne = dite (dec_le old n)
    (λ (h : old ≤ n). ap once (le-ltb n (old + 1) (omega arith)) ∙ sym (ap once (le-ltb n old h)))
    (λ h. let l : n < old = lt_of_not-le h in ap once (lt-ltb n (old + 1) (omega arith)) ∙ sym (ap once (lt-ltb n old l)))

-- one more number is drawn
one_more : (n old : ℕ) → once (ltb n (old + 1)) ≡ once (ltb n old) + times n (old ∷ [])
one_more n old = dite (ℕ_discrete old n)
    (λ (e : old ≡ n).
    let a : once (ltb n (old + 1)) ≡ 1 = ap once (lt-ltb n (old + 1) (omega arith)) in
    let b : once (ltb n old) ≡ 0 = ap once (le-ltb n old (omega arith)) in
    let c : times n (old ∷ []) ≡ 1 = subst (λ (m : ℕ). times n (m ∷ []) ≡ 1) (sym e) (times_one n) in
    omega (arith, a, b, c))
    (λ (ne : old ≢ n). let a = times_other n old ne in let b = once_same n old ne in omega (arith, a, b))

module _ {O E : Type 0} (step : O → ℕ → E → O → Type 0) (origin : O) where
  -- the view with one number more to give
  abbrev drawer : ℕ → Known O E → Known O E
  drawer n v = record v { ready = v.ready ++ n ∷ [] }

  owned_drawer : (n : ℕ) (v : Known O E) → owned (drawer n v) ≡ owned v ++ (n, []) ∷ []
  owned_drawer n v = ap (λ (l : List (ℕ × List E)). v.mine ++ l) (map-append (λ m. (m, [])) v.ready (n ∷ [])) ∙ sym (append_assoc v.mine (blank v.ready) ((n, []) ∷ []))

  times_drawer : (m n : ℕ) (v : Known O E) → times m (numbers (owned (drawer n v))) ≡ times m (numbers (owned v)) + times m (n ∷ [])
  times_drawer m n v = ap (times m) (ap numbers (owned_drawer n v) ∙ numbers-append (owned v) ((n, []) ∷ [])) ∙ times-append m (numbers (owned v)) (n ∷ [])

  more_drawn : (log : List (ℕ × List E)) (d : ℕ) (v : Known O E) → Knows origin log d v → Knows origin log (d + 1) v
  more_drawn log d v f = record { opening = f.opening; seen = f.seen; beside = f.beside; whole = f.whole; own = f.own; given = each_map (λ n. n < d) (λ n. n < d + 1) v.gave (λ n h. omega arith) f.given; shown = f.shown; holds = f.holds; acts = f.acts }

  knows_drawer : (log : List (ℕ × List E)) (d : ℕ) (v : Known O E) → turns_of d log ≡ [] → Knows origin log d v → Knows origin log (d + 1) (drawer d v)
  knows_drawer log d v none_yet f =
      let idle : turns_of d v.turns ≡ [] = idle_begin d v.turns log f.seen none_yet in
      record {
        opening = f.opening;
        seen = f.seen;
        beside = f.beside;
        whole = subst (AllByRecursion (λ (m : ℕ × List E). turns_of m.0 log ≡ turns_of m.0 v.turns)) (sym (owned_drawer d v))
            (each_append (λ m. turns_of m.0 log ≡ turns_of m.0 v.turns) (owned v) ((d, []) ∷ []) f.whole (none_yet ∙ sym idle, tt));
        own = subst (λ (l : List (ℕ × List E)). HasOwn l (history v.turns)) (sym (owned_drawer d v))
            (each_append (λ m. entries_of m.0 (history v.turns) ≡ m.1) (owned v) ((d, []) ∷ []) f.own (idle_entries d v.turns idle, tt));
        given = each_map (λ n. n < d) (λ n. n < d + 1) v.gave (λ n h. omega arith) f.given;
        shown = f.shown;
        holds = f.holds;
        acts = f.acts;
      }

  module _ (old id slots : ℕ) (me : Me (Option O) (Known O E)) (acts : HasNumber me.0.mine) where
    module _ (s : State (Option O) (Known O E)) (k : Kept step origin s) (at : get_elem? s.views id ≡ some me.0) where
      abbrev Goal : Bool → Type 0
      Goal b = (w : Known O E) × (a : Act (Option O)) × Rattle.atomic_table.specs.Table.Valid s.homes me.1 a
          × Kept step origin (Rattle.atomic_table.specs.Table.stepped s 1 (either b (old + 1) (get_or s.words 1 0)) id me.1 w a)
          × MatchBool b (Drawn old me (w, Rattle.atomic_table.specs.Table.carried_after me.1 a)) ((w, Rattle.atomic_table.specs.Table.carried_after me.1 a) ≡ me)

      -- the new number is recorded with the acting one
      newly : old ≡ k.drawn → Recorded old (set s.views id (drawer old me.0))
      newly is =
          let n : ℕ = acting me.0.mine in
          let its = acting_its me.0.mine acts in
          let below = its_drawn step origin s k n id me.0 at (its_owned step origin s k n me.0 its) in
          record {
            id = id;
            view = drawer old me.0;
            by = n;
            there = set_here s.views id (drawer old me.0) (place_within s.views id me.0 at);
            less = omega arith;
            its = its;
            noted = omega (arith, times-append old me.0.gave (me.0.ready ++ old ∷ []), times-append old me.0.ready (old ∷ []), times_one old);
          }

      recorded : old ≡ k.drawn → (n : ℕ) → n < old + 1 → n ≢ 0 → Recorded n (set s.views id (drawer old me.0))
      recorded is n l ne = dite (ℕ_discrete old n)
          (λ (e : old ≡ n). subst (λ (m : ℕ). Recorded m (set s.views id (drawer old me.0))) e (newly is))
          (λ (apart : old ≢ n). recorded_set n s.views id me.0 (drawer old me.0) at (λ m. omega arith)
          (λ m. omega (arith, times-append m me.0.gave me.0.ready, times-append m me.0.gave (me.0.ready ++ old ∷ []), times-append m me.0.ready (old ∷ []))) (k.recorded n (omega arith) ne))

      drawing : (b : Bool) → (get_or s.words 1 0 == old) ≡ b → Goal b
      drawing false e = (me.0, keeps, tt, unchanged step origin s k 1 id me.0 at, refl)
      drawing true e =
          let f = k.known id me.0 at in
          let is : old ≡ k.drawn = sym (eqb-true (get_or s.words 1 0) old e) ∙ ap (λ (l : List ℕ). get_or l 1 0) k.words in
          let none_yet : turns_of old k.log ≡ [] = k.undrawn old (omega arith) in
          let fits : Knows origin k.log old me.0 = subst (λ (d : ℕ). Knows origin k.log d me.0) (sym is) f in (
            drawer old me.0,
            keeps,
            tt,
            changed step origin s k id me.0 (drawer old me.0) at k.log k.value k.held (old + 1) (set s.words 1 (old + 1)) s.homes
                (ap (λ (l : List ℕ). set l 1 (old + 1)) k.words)
                k.legal
                k.slot
                (λ j u ne a. more_drawn k.log old u (subst (λ (d : ℕ). Knows origin k.log d u) (sym is) (k.known j u a)))
                (knows_drawer k.log old me.0 none_yet fits)
                (λ n. let same : once (ltb n k.drawn) ≡ once (ltb n old) = ap (λ (d : ℕ). once (ltb n d)) (sym is) in omega (arith, times_drawer n old me.0, one_more n old, same))
                (recorded is)
                (λ n l. k.undrawn n (omega arith))
                (omega arith)
                refl,
            record {
              view = refl;
              fresh = let f : Known O E → ℕ = λ u. times old (numbers (owned u)) in let undrawn : once (ltb old k.drawn) ≡ 0 = ap once (le-ltb old k.drawn (omega arith)) in omega (arith, total_at f s.views id me.0 at, k.apart old, undrawn);
              ungiven = none_given old me.0.gave fits.given;
              idle = idle_begin old me.0.turns k.log f.seen none_yet;
            },
          )

    pub draws_number : Allows (Kept step origin) slots id me 1 (λ n. either (n == old) (old + 1) n) (Draws (Rattle.atomic_table.specs.Table.step slots 1 old (old + 1) none) me)
    draws_number s k long at fits = drawing s k at (get_or s.words 1 0 == old) refl

    pub drew : (found : ℕ) (now : Me (Option O) (Known O E)) → found ≡ old → Draws (Rattle.atomic_table.specs.Table.step slots 1 old (old + 1) none) me found now → Drawn old me now
    drew found now e h = hit (Drawn old me now) (now ≡ me) found old e h

    pub not_drawn : (found : ℕ) (now : Me (Option O) (Known O E)) → found ≢ old → Draws (Rattle.atomic_table.specs.Table.step slots 1 old (old + 1) none) me found now → now ≡ me
    not_drawn found now ne h = missed (Drawn old me now) (now ≡ me) found old ne h

-- What the calls promise, from what their steps say.
use Rattle.std.proofs.Common.{append_assoc, ◌≡◌, ◌<◌, ◌≤◌, ◌+◌, ◌/◌, ℕ, max, List, [], ◌∷◌, ◌++◌, Bool, true, false, cond, ltb, length, Option, Some, None, sym, refl, ap, ◌∙◌, subst, arith, append-nil, length-append, ltb-true, ltb-false}
use mathlib.Core.List.{IsPrefix}
use mathlib.Core.Option.{none, some, some-injective}
use lib.ListN.{get_elem?}
use Rattle.atomic_table.specs.Table.{State, Me, Step, Act, keeps, takes, gives, rest, Allows, Splits, Joins, Final, Seen, put_back}
use Rattle.zot_turn.specs.declared.known.Known.{Known}
use Rattle.zot_history.specs.History.{Replays, signed, entries_of}
use Rattle.zot_turn.specs.Turns.{history}
use Rattle.zot_turn.specs.Seats.{numbers, acting, with_entries, HasOwn, longer, shorter}
use Rattle.zot_turn.specs.Steps.{times, blank, Kept, HasNumber, TakesTurn, MayGive, after_turn, Drawn, Settles, giver, taker, joined}
use Rattle.zot_history.proofs.Prefixes.{prefix_refl}
use Rattle.zot_turn.proofs.Lists.{each_append, each_left}
use Rattle.zot_history.proofs.Histories.{replays_append}
use Rattle.zot_turn.proofs.Turns.{history-append, history_push}
use Rattle.zot_turn.proofs.Totals.{numbers_with, times-append, times_first, times_contained, numbers-append}
use Rattle.zot_turn.proofs.Changes.{times_owned}
use Rattle.atomic_table.specs.Seated.{TableId}
use Rattle.zot_turn.specs.Seats.{Home, Standing, Stands, IsOwed, Turned, Parted, Joined, IsLater, HasAll, seen}
use Rattle.zot_turn.specs.Views.{standing_of, IsAtRest}
use Rattle.zot_turn.proofs.Turns.{history_prefix}
use Rattle.zot_turn.proofs.Giving.{own_after}
use Rattle.zot_turn.proofs.Closing.{Closes, closes_last}

same_some : {O : Type 0} (x y : O) → Some x ≡ Some y → x ≡ y
same_some x y e = cc e

same_value : {O : Type 0} (x y : O) (more : List (ℕ × Option O)) → (0, Some x) ∷ more ≡ (0, Some y) ∷ [] → x ≡ y
same_value {O} x y more e = let p : (0, Some x) ≡ (0, Some y) = cc e in same_some x y (ap (λ (q : ℕ × Option O). q.1) p)

module _ {O E : Type 0} (place table : TableId) (key : O) (v : Known O E) (seat : Standing O E) (home : Home O) (seat_is : standing_of place v ≡ seat) (at_home : seat.home ≡ home) (home_is : record { table = table; opening = Some key } ≡ home) where
  -- a seat of a shared value knows what that was opened with
  pub opened : v.opening ≡ Some key
  opened = ap (λ (s : Standing O E). s.home.opening) seat_is ∙ ap (λ (h : Home O). h.opening) at_home ∙ sym (ap (λ (h : Home O). h.opening) home_is)

  -- and it is a seat of that value's table
  pub placed : place ≡ table
  placed = ap (λ (s : Standing O E). s.home.table) seat_is ∙ ap (λ (h : Home O). h.table) at_home ∙ sym (ap (λ (h : Home O). h.table) home_is)

-- the four steps of a turn are steps on one table
pub same_table : (was taken lifted laid given : TableId) → taken ≡ was → lifted ≡ taken → laid ≡ lifted → given ≡ laid → given ≡ was
same_table was taken lifted laid given a b c d = d ∙ c ∙ b ∙ a

module _ {O E : Type 0} where
  pub has_number : (number turns : ℕ) (me : Me (Option O) (Known O E)) → IsAtRest number turns me → HasNumber me.0.mine
  has_number number turns me r = subst (λ (ms : List (ℕ × List E)). HasNumber ms) (sym r.mine) (number, times_first number number (numbers r.others) refl)

  pub acting_is : (number turns : ℕ) (me : Me (Option O) (Known O E)) → IsAtRest number turns me → acting me.0.mine ≡ number
  acting_is number turns me r = ap acting r.mine

module _ {O E : Type 0} (step : O → ℕ → E → O → Type 0) (origin : O) (table : TableId) (number turns : ℕ) (me : Me (Option O) (Known O E)) (r : IsAtRest number turns me) (opening : me.0.opening ≡ Some origin) where
  module _ (found : ℕ) (held : Me (Option O) (Known O E)) (t : TakesTurn step found me held) (value : O) (slot : held.1 ≡ (0, Some value) ∷ []) where
    took_it : t.value ≡ value
    took_it = same_value t.value value me.1 (sym t.slot ∙ slot)

    stood_there : Replays step origin (history (me.0.turns ++ t.others)) value
    stood_there = subst (λ (x : O). Replays step origin (history (me.0.turns ++ t.others)) x) took_it (t.stood origin opening)

    stands : Stands step (standing_of table me.0).home (history (me.0.turns ++ t.others)) value
    stands = subst (λ (o : Option O). Stands step record { table = table; opening = o } (history (me.0.turns ++ t.others)) value) (sym opening) stood_there

    pub needed : (P : O → Type 0) → IsOwed step (standing_of table me.0) P → P value
    needed P owed = owed (history (me.0.turns ++ t.others)) value (history_prefix me.0.turns (me.0.turns ++ t.others) (t.others, refl)) t.own stands

    -- the view while the turn is held
    abbrev pub holding_view : Known O E
    holding_view = record me.0 { turns = me.0.turns ++ t.others; holding = true }

    module _ (es : List E) (after : O) (made : Replays step value (signed number es) after) (lifted laid : Me (Option O) (Known O E)) (lift_is : lifted ≡ (held.0, (0, None) ∷ [])) (lay_is : laid ≡ (lifted.0, (0, Some after) ∷ [])) where
      full : laid ≡ (holding_view, (0, Some after) ∷ [])
      full = lay_is ∙ (λ i. ((lift_is i).0, (0, Some after) ∷ [])) ∙ (λ i. (t.view i, (0, Some after) ∷ []))

      made_as : Replays step value (signed (acting me.0.mine) es) after
      made_as = subst (λ (n : ℕ). Replays step value (signed n es) after) (sym (acting_is number turns me r)) made

      may_held : MayGive step origin es found (holding_view, (0, Some after) ∷ [])
      may_held = record { before = value; after = after; opening = opening; holding = refl; slot = refl; stood = stood_there; made = made_as; count = t.count }

      pub may_give : MayGive step origin es found laid
      may_give = subst (MayGive step origin es found) (sym full) may_held

      module _ (now : Me (Option O) (Known O E)) (given : now ≡ (after_turn es laid.0, [])) where
        now_is : now ≡ (after_turn es holding_view, [])
        now_is = given ∙ (λ i. (after_turn es (full i).0, []))

        rests_after : IsAtRest number (found / 2 + 1) (after_turn es holding_view, [])
        rests_after = record {
          entries = r.entries ++ es;
          others = r.others;
          mine = ap (with_entries es) r.mine;
          count = omega (arith, t.count, length-append (me.0.turns ++ t.others) ((acting me.0.mine, es) ∷ []));
          beside = r.beside;
          ready = r.ready;
          holding = refl;
          slots = refl;
        }

        pub rests_again : IsAtRest number (found / 2 + 1) now
        rests_again = subst (λ (m : Me (Option O) (Known O E)). IsAtRest number (found / 2 + 1) m) (sym now_is) rests_after

        long_history : history (after_turn es holding_view).turns ≡ history (me.0.turns ++ t.others) ++ signed (acting me.0.mine) es
        long_history = history_push (me.0.turns ++ t.others) (acting me.0.mine) es

        legal_after : Replays step origin (history (after_turn es holding_view).turns) after
        legal_after = subst (λ (h : List (ℕ × E)). Replays step origin h after) (sym long_history) (replays_append step origin value after (history (me.0.turns ++ t.others)) (signed (acting me.0.mine) es) stood_there made_as)

        own_again : HasOwn (with_entries es me.0.mine) (history (after_turn es holding_view).turns)
        own_again =
            let here : ℕ = acting me.0.mine in
            let alone : times here (numbers (me.0.mine ++ [])) ≤ 1 = omega (arith, t.apart here, ap (λ (l : List (ℕ × List E)). times here (numbers l)) (append-nil me.0.mine)) in
            each_left (λ m. entries_of m.0 (history (after_turn es holding_view).turns) ≡ m.1) (with_entries es me.0.mine) []
            (own_after es me.0.mine [] (me.0.turns ++ t.others) (has_number number turns me r) alone (each_append (λ m. entries_of m.0 (history (me.0.turns ++ t.others)) ≡ m.1) me.0.mine [] t.own tt))

        turned_held : (ran : O → O → Type 0) → ran value after → Turned step es ran (standing_of table me.0) (standing_of table (after_turn es holding_view))
        turned_held ran run = record {
          others = t.others;
          before = value;
          after = after;
          known = refl;
          seen_is = long_history ∙ ap (λ (h : List (ℕ × E)). h ++ signed (acting me.0.mine) es) (history-append me.0.turns t.others);
          elsewhere = t.elsewhere;
          stood = stands;
          run = run;
          made = made_as;
          legal = subst (λ (o : Option O). Stands step record { table = table; opening = o } (history (after_turn es holding_view).turns) after) (sym opening) legal_after;
          own = own_again;
          shown = t.shown;
        }

        pub turned : (place : TableId) → place ≡ table → (ran : O → O → Type 0) → ran value after → Turned step es ran (standing_of table me.0) (standing_of place now.0)
        turned place is ran run = subst (λ (s : Standing O E). Turned step es ran (standing_of table me.0) s) (λ i. standing_of (sym is i) (sym now_is i).0) (turned_held ran run)

-- after a turn the seat is the same, later
pub later_turned : {O E : Type 0} (step : O → ℕ → E → O → Type 0) (es : List E) (ran : O → O → Type 0) (old new : Standing O E) → Turned step es ran old new → IsLater old new
later_turned {O} {E} step es ran old new t = record {
  home = ap (λ (s : Standing O E). s.home) t.known;
  numbers = ap (λ (s : Standing O E). numbers s.mine) t.known ∙ numbers_with es old.mine;
  gave = ap (λ (s : Standing O E). s.gave) t.known;
  turns = (t.others ++ (acting old.mine, es) ∷ [], sym (append_assoc old.turns t.others ((acting old.mine, es) ∷ [])) ∙ sym (ap (λ (s : Standing O E). s.turns) t.known));
}

module _ {O E : Type 0} (table : TableId) (number turns : ℕ) (me : Me (Option O) (Known O E)) (r : IsAtRest number turns me) (n : ℕ) (drawn : Me (Option O) (Known O E)) (d : Drawn n me drawn) where
  -- a seat that has drawn has just that number to give
  abbrev drawing_view : Known O E
  drawing_view = record me.0 { ready = me.0.ready ++ n ∷ [] }

  one_ready : drawing_view.ready ≡ n ∷ []
  one_ready = ap (λ (l : List ℕ). l ++ n ∷ []) r.ready

  pub giver_rests : (given : Me (Option O) (Known O E)) → given ≡ (giver drawn.0, drawn.1) → IsAtRest number turns given
  giver_rests given is = subst (λ (m : Me (Option O) (Known O E)). IsAtRest number turns m) (sym (is ∙ (λ i. (giver (d.view i).0, (d.view i).1))))
      (record { entries = r.entries; others = r.others; mine = r.mine; count = r.count; beside = r.beside; ready = refl; holding = r.holding; slots = r.slots })

  pub taker_rests : (taken : Me (Option O) (Known O E)) → taken ≡ (taker drawn.0, []) → IsAtRest n turns taken
  taker_rests taken is = subst (λ (m : Me (Option O) (Known O E)). IsAtRest n turns m) (sym (is ∙ (λ i. (taker (d.view i).0, []))))
      (record { entries = []; others = []; mine = ap blank one_ready; count = r.count; beside = refl; ready = refl; holding = refl; slots = refl })

  parted_views : Parted (standing_of table me.0) (standing_of table (giver drawing_view)) (standing_of table (taker drawing_view))
  parted_views = record {
    number = n;
    kept = ap (λ (l : List ℕ). record (standing_of table me.0) { gave = me.0.gave ++ l }) one_ready;
    given_is = ap (λ (l : List ℕ). record (standing_of table me.0) { mine = blank l; gave = [] }) one_ready;
    fresh = λ h. absurd (omega (arith, times_contained n (numbers me.0.mine) h, d.fresh, times_owned n me.0));
    ungiven = λ h. absurd (omega (arith, times_contained n me.0.gave h, d.ungiven));
    idle = d.idle;
  }

  pub parted : (here there : TableId) → here ≡ table → there ≡ table → (given taken : Me (Option O) (Known O E)) → given ≡ (giver drawn.0, drawn.1) → taken ≡ (taker drawn.0, [])
      → Parted (standing_of table me.0) (standing_of here given.0) (standing_of there taken.0)
  parted here there a b given taken p q =
      let given_as : given.0 ≡ giver drawing_view = (λ i. (p i).0) ∙ (λ i. giver (d.view i).0) in
      let taken_as : taken.0 ≡ taker drawing_view = (λ i. (q i).0) ∙ (λ i. taker (d.view i).0) in
      subst (λ (s : Standing O E × Standing O E). Parted (standing_of table me.0) s.0 s.1) (λ i. (standing_of (sym a i) (sym given_as i), standing_of (sym b i) (sym taken_as i))) parted_views

module _ {O E : Type 0} (step : O → ℕ → E → O → Type 0) (origin : O) (table : TableId) (number turns : ℕ) (me : Me (Option O) (Known O E)) (r : IsAtRest number turns me) (opening : me.0.opening ≡ Some origin) (theirs : ℕ) (count : ℕ) (other : Me (Option O) (Known O E)) (q : IsAtRest theirs count other)
    (both now : Me (Option O) (Known O E)) (both_is : both ≡ (joined me.0 other.0, me.1)) (slots found : ℕ) (settled : Settles step (Rattle.atomic_table.specs.Table.step slots 0 0 0 none) both found now) where
  now_is_joined : now ≡ (record (joined me.0 other.0) { beside = [] }, me.1)
  now_is_joined = settled.view ∙ (λ i. (record (both_is i).0 { beside = [] }, (both_is i).1))

  longer_length : (xs ys : List (ℕ × List E)) → max (length xs) (length ys) ≡ length (longer xs ys)
  longer_length xs ys = by_test (ltb (length xs) (length ys)) refl
    where
      by_test : (b : Bool) → ltb (length xs) (length ys) ≡ b → max (length xs) (length ys) ≡ length (cond b ys xs)
      by_test true e = let l : length xs < length ys = ltb-true (length xs) (length ys) e in omega arith
      by_test false e = let l : length ys ≤ length xs = ltb-false (length xs) (length ys) e in omega arith

  pub joined_rests : (most : ℕ) → most ≡ max turns count → IsAtRest number most now
  joined_rests most is = subst (λ (m : Me (Option O) (Known O E)). IsAtRest number most m) (sym now_is_joined) (record {
    entries = r.entries;
    others = r.others ++ other.0.mine;
    mine = ap (λ (l : List (ℕ × List E)). l ++ other.0.mine) r.mine;
    count = is ∙ (λ i. max (r.count i) (q.count i)) ∙ longer_length me.0.turns other.0.turns;
    beside = refl;
    ready = λ i. r.ready i ++ q.ready i;
    holding = r.holding;
    slots = r.slots;
  })

  begins : IsPrefix (shorter me.0.turns other.0.turns) (longer me.0.turns other.0.turns)
  begins = subst (λ (m : Me (Option O) (Known O E)). IsPrefix m.0.beside m.0.turns) both_is settled.begins

  both_begins : (xs ys : List (ℕ × List E)) → IsPrefix (shorter xs ys) (longer xs ys) → IsPrefix xs (longer xs ys) × IsPrefix ys (longer xs ys)
  both_begins xs ys = by_case (ltb (length xs) (length ys))
    where
      by_case : (b : Bool) → IsPrefix (cond b xs ys) (cond b ys xs) → IsPrefix xs (cond b ys xs) × IsPrefix ys (cond b ys xs)
      by_case true h = (h, prefix_refl ys)
      by_case false h = (prefix_refl xs, h)

  joined_legal : (value : O) × Replays step origin (history (longer me.0.turns other.0.turns)) value
  joined_legal = subst (λ (m : Me (Option O) (Known O E)). (value : O) × Replays step origin (history m.0.turns) value) both_is (settled.legal origin ((λ i. (both_is i).0.opening) ∙ opening))

  joined_views : Joined step (standing_of table me.0) (standing_of table other.0) (standing_of table (record (joined me.0 other.0) { beside = [] }))
  joined_views = let h = both_begins me.0.turns other.0.turns begins in record {
    known = refl;
    first = h.0;
    second = h.1;
    own = subst (λ (m : Me (Option O) (Known O E)). HasOwn m.0.mine (history m.0.turns)) both_is settled.own;
    distinct = λ n a b. absurd (omega (
      arith,
      times_contained n (numbers me.0.mine) a,
      times_contained n (numbers other.0.mine) b,
      subst (λ (m : Me (Option O) (Known O E)). times n (numbers m.0.mine) ≤ 1) both_is (settled.apart n),
      ap (times n) (numbers-append me.0.mine other.0.mine),
      times-append n (numbers me.0.mine) (numbers other.0.mine),
    ));
    legal = (joined_legal.0, subst (λ (o : Option O). Stands step record { table = table; opening = o } (history (longer me.0.turns other.0.turns)) joined_legal.0) (sym opening) joined_legal.1);
  }

  pub joined_seats : (here there : TableId) → here ≡ table → there ≡ table → Joined step (standing_of table me.0) (standing_of there other.0) (standing_of here now.0)
  joined_seats here there a b = subst (λ (s : Standing O E × Standing O E). Joined step (standing_of table me.0) s.0 s.1) (λ i. (standing_of (sym b i) other.0, standing_of (sym a i) (sym now_is_joined i).0)) joined_views

-- what a closing shows of the slot that is handed out
abbrev pub Ends : {O E : Type 0} → (O → ℕ → E → O → Type 0) → O → List (Option O) → Known O E → Type 0
Ends step origin slots v = Closes step origin (λ x. get_elem? slots 0 ≡ some (Some x)) v

module _ {O E : Type 0} (step : O → ℕ → E → O → Type 0) (origin : O) (table : TableId) (number turns : ℕ) (me : Me (Option O) (Known O E)) (r : IsAtRest number turns me) where
  pub ends : (id : ℕ) (words : List ℕ) (slots : List (Option O)) → Final (Seen (Kept step origin) id me.0) words slots → HasAll (standing_of table me.0) → Ends step origin slots me.0
  ends id words slots fin all =
      let c = closes_last step origin fin.0 fin.1.0 id me.0 fin.1.1 r.holding r.ready all.0 all.1 in
      record { value = c.value; there = fin.4 0 (Some c.value) (ap (λ h. get_elem? h 0) c.there); stood = c.stood; all = c.all; own = c.own; shown = c.shown }

  pub never_empty : (slots : List (Option O)) → Ends step origin slots me.0 → get_elem? slots 0 ≡ some None → ⊥
  never_empty slots e h = let p : Some e.value ≡ None = some-injective (Some e.value) None (sym e.there ∙ h) in cc p

  pub value_stands : (slots : List (Option O)) (e : Ends step origin slots me.0) (value : O) → get_elem? slots 0 ≡ some (Some value) → me.0.opening ≡ Some origin → Stands step (standing_of table me.0).home (seen (standing_of table me.0)) value
  value_stands slots e value h opening =
      let p : Some e.value ≡ Some value = some-injective (Some e.value) (Some value) (sym e.there ∙ h) in
      subst (λ (o : Option O). Stands step record { table = table; opening = o } (history me.0.turns) value) (sym opening) (subst (λ (x : O). Replays step origin (history me.0.turns) x) (same_some e.value value p) e.stood)

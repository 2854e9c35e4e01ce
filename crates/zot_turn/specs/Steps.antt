-- What each seat of the table knows, the rule that every step keeps, and what the steps say.
use Rattle.std.specs.Prelude.{◌≡◌, ◌≢◌, ◌==◌, ◌+◌, ◌*◌, ◌/◌, ◌<◌, ◌≤◌, ℕ, max, List, [], ◌∷◌, ◌++◌, map, length, Bool, true, false, cond, nat_lt}
use Rattle.std.specs.Bool.{MatchBool}
use Rattle.std.specs.Option.{ForSome}
use Rattle.std.specs.List.{AllByRecursion}
use Rattle.std.specs.Prelude.{Option}
use Rattle.std.specs.Prelude.{None, Some}
use mathlib.Core.Option as maybe
use mathlib.Core.List.{IsPrefix}
use lib.ListN.{get_elem?}
use Rattle.atomic_table.specs.Table.{State, Me, Step}
use Rattle.atomic_table.specs.Seated.{TableId}
use Rattle.zot_turn.specs.declared.known.Known.{Known}
use Rattle.zot_history.specs.History.{Replays, signed}
use Rattle.zot_turn.specs.Turns.{history, turns_of}
use Rattle.zot_turn.specs.Seats.{numbers, acting, with_entries, HasOwn, Elsewhere, longer, shorter}

-- what the first seat of a value knows
abbrev pub first_known : {O E : Type 0} → O → Known O E
first_known o = record { opening = Some o; turns = []; beside = []; mine = (0, []) ∷ []; gave = []; ready = []; shown = 0; holding = false }

-- these numbers, with no entries
abbrev pub blank : {E : Type 0} → List ℕ → List (ℕ × List E)
blank ns = map (λ n. (n, [])) ns

-- a seat's numbers and those that it has drawn and not given yet
abbrev pub owned : {O E : Type 0} → Known O E → List (ℕ × List E)
owned v = v.mine ++ blank v.ready

-- how often n stands among these
abbrev pub times : ℕ → List ℕ → ℕ
times n [] = 0
times n (m ∷ ms) = cond (m == n) 1 0 + times n ms

-- f of each, added up
abbrev pub total : {V : Type 0} → (V → ℕ) → List V → ℕ
total f [] = 0
total f (v ∷ vs) = f v + total f vs

-- 1 for what holds, and else 0
abbrev pub once : Bool → ℕ
once b = cond b 1 0

-- what a seat knows of the one history: what it has seen begins the history, its numbers have just its entries there, and the seat that holds the turn has seen all
pub record Knows {O E : Type 0} (origin : O) (log : List (ℕ × List E)) (drawn : ℕ) (v : Known O E) : Type 0 where
  pub opening : ForSome v.opening (λ o. o ≡ origin)
  pub seen : IsPrefix v.turns log
  pub beside : IsPrefix v.beside v.turns
  pub whole : AllByRecursion (λ m. turns_of m.0 log ≡ turns_of m.0 v.turns) (owned v)
  pub own : HasOwn (owned v) (history v.turns)
  pub given : AllByRecursion (λ n. n < drawn) v.gave
  pub shown : v.shown ≤ length log
  pub holds : v.holding ≡ true → v.turns ≡ log
  pub acts : v.holding ≡ true → (m : ℕ) × (0 < times m (numbers v.mine))

-- a seat with a number smaller than n gave n, or is to give it
pub record Recorded {O E : Type 0} (n : ℕ) (views : List (Known O E)) : Type 0 where
  pub id : ℕ
  pub view : Known O E
  pub by : ℕ
  pub there : get_elem? views id ≡ maybe.some view
  pub less : by < n
  pub its : 0 < times by (numbers view.mine)
  pub noted : 0 < times n (view.gave ++ view.ready)

-- There is one history. Word 0 is twice the number of its turns, and one more while a turn is held; word 1 is the count of the numbers drawn. While no turn is held the slot has the value that the history leads to
pub record Kept {O E : Type 0} (step : O → ℕ → E → O → Type 0) (origin : O) (s : State (Option O) (Known O E)) : Type 0 where
  pub log : List (ℕ × List E)
  pub value : O
  pub held : Bool
  pub drawn : ℕ
  pub words : s.words ≡ (2 * length log + once held) ∷ drawn ∷ []
  pub legal : Replays step origin (history log) value
  pub slot : s.homes ≡ cond held maybe.none (maybe.some (Some value)) ∷ []
  pub known : (id : ℕ) (v : Known O E) → get_elem? s.views id ≡ maybe.some v → Knows origin log drawn v
  pub apart : (n : ℕ) → total (λ v. times n (numbers (owned v))) s.views ≡ once (nat_lt n drawn)
  pub recorded : (n : ℕ) → n < drawn → n ≢ 0 → Recorded n s.views
  pub undrawn : (n : ℕ) → drawn ≤ n → turns_of n log ≡ []
  pub zero_drawn : 0 < drawn
  pub holder : total (λ v. once v.holding) s.views ≡ once held

-- the turn was taken: the seat has seen all turns so far, and took out the value that they lead to
pub record TakesTurn {O E : Type 0} (step : O → ℕ → E → O → Type 0) (found : ℕ) (me now : Me (Option O) (Known O E)) : Type 0 where
  pub others : List (ℕ × List E)
  pub value : O
  pub view : now.0 ≡ record me.0 { turns = me.0.turns ++ others; holding = true }
  pub slot : now.1 ≡ (0, Some value) ∷ me.1
  pub stood : ForSome me.0.opening (λ o. Replays step o (history (me.0.turns ++ others)) value)
  pub elsewhere : Elsewhere me.0.mine others
  pub own : HasOwn me.0.mine (history (me.0.turns ++ others))
  pub apart : (n : ℕ) → times n (numbers me.0.mine) ≤ 1
  pub shown : me.0.shown ≤ length (me.0.turns ++ others)
  pub count : found ≡ 2 * length (me.0.turns ++ others)

-- the word was the one expected and the turn was taken, or nothing changed
abbrev pub TakesTurnOrNot : {O E : Type 0} → (O → ℕ → E → O → Type 0) → Step (Option O) → Me (Option O) (Known O E) → ℕ → Me (Option O) (Known O E) → Type 0
TakesTurnOrNot step s me found now = MatchBool (found == s.first) (TakesTurn step found me now) (now ≡ me)

-- the view after a turn with these entries
abbrev pub after_turn : {O E : Type 0} → List E → Known O E → Known O E
after_turn es v = record v { turns = v.turns ++ (acting v.mine, es) ∷ []; mine = with_entries es v.mine; holding = false }

-- a look showed the number of turns so far
abbrev pub Looks : {O E : Type 0} → Step (Option O) → Me (Option O) (Known O E) → ℕ → Me (Option O) (Known O E) → Type 0
Looks s me found now = now ≡ (record me.0 { shown = max me.0.shown (found / 2) }, me.1)

-- what the two seats of a join had seen are beginnings of one legal history, and the longer stays
pub record Settles {O E : Type 0} (step : O → ℕ → E → O → Type 0) (s : Step (Option O)) (me : Me (Option O) (Known O E)) (found : ℕ) (now : Me (Option O) (Known O E)) : Type 0 where
  pub view : now ≡ (record me.0 { beside = [] }, me.1)
  pub begins : IsPrefix me.0.beside me.0.turns
  pub own : HasOwn me.0.mine (history me.0.turns)
  pub apart : (n : ℕ) → times n (numbers me.0.mine) ≤ 1
  pub legal : ForSome me.0.opening (λ o. (value : O) × Replays step o (history me.0.turns) value)

-- the seat that gives its drawn numbers away
abbrev pub giver : {O E : Type 0} → Known O E → Known O E
giver v = record v { gave = v.gave ++ v.ready; ready = [] }

-- the seat that is given them, and has seen as much
abbrev pub taker : {O E : Type 0} → Known O E → Known O E
taker v = record { opening = v.opening; turns = v.turns; beside = []; mine = blank v.ready; gave = []; ready = []; shown = v.shown; holding = false }

-- the seat that takes in another
abbrev pub joined : {O E : Type 0} → Known O E → Known O E → Known O E
joined v w = record { opening = v.opening; turns = longer v.turns w.turns; beside = shorter v.turns w.turns; mine = v.mine ++ w.mine; gave = v.gave ++ w.gave; ready = v.ready ++ w.ready; shown = max v.shown w.shown; holding = v.holding }

-- the same, with the beginning that was seen and the one beside it chosen by these functions
abbrev pub joined_by : {O E : Type 0} → (List (ℕ × List E) → List (ℕ × List E) → List (ℕ × List E)) → (List (ℕ × List E) → List (ℕ × List E) → List (ℕ × List E)) → Known O E → Known O E → Known O E
joined_by seen beside v w = record (joined v w) { turns = seen v.turns w.turns; beside = beside v.turns w.turns }

-- the seat that was taken in
abbrev pub spent_known : {O E : Type 0} → Known O E
spent_known = record { opening = None; turns = []; beside = []; mine = []; gave = []; ready = []; shown = 0; holding = false }

-- a table with these words and slots, and a seat of it
abbrev pub IsBoard : TableId → TableId → Type 0
IsBoard table seat = (seat ≡ table) × (table.words ≡ 2) × (table.slots ≡ 1)

-- there is a number among these
abbrev pub HasNumber : {E : Type 0} → List (ℕ × List E) → Type 0
HasNumber mine = (n : ℕ) × (0 < times n (numbers mine))

-- the seat holds the turn and put a value back: the entries lead from the value that it took to this one
pub record MayGive {O E : Type 0} (step : O → ℕ → E → O → Type 0) (origin : O) (es : List E) (found : ℕ) (me : Me (Option O) (Known O E)) : Type 0 where
  pub before : O
  pub after : O
  pub opening : me.0.opening ≡ Some origin
  pub holding : me.0.holding ≡ true
  pub slot : me.1 ≡ (0, Some after) ∷ []
  pub stood : Replays step origin (history me.0.turns) before
  pub made : Replays step before (signed (acting me.0.mine) es) after
  pub count : found ≡ 2 * length me.0.turns

-- the number was drawn and is to be given; the seat neither had nor gave it before, and saw no turn of it
pub record Drawn {O E : Type 0} (n : ℕ) (me now : Me (Option O) (Known O E)) : Type 0 where
  pub view : now ≡ (record me.0 { ready = me.0.ready ++ n ∷ [] }, me.1)
  pub fresh : times n (numbers (owned me.0)) ≡ 0
  pub ungiven : times n me.0.gave ≡ 0
  pub idle : turns_of n me.0.turns ≡ []

-- the word was the one expected and its number was drawn, or nothing changed
abbrev pub Draws : {O E : Type 0} → Step (Option O) → Me (Option O) (Known O E) → ℕ → Me (Option O) (Known O E) → Type 0
Draws s me found now = MatchBool (found == s.first) (Drawn s.first me now) (now ≡ me)

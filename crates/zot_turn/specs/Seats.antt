-- A shared value and a seat as contracts see them, and what the calls say of them.
use Rattle.std.specs.Prelude.{◌≡◌, ◌≤◌, ℕ, List, [], ◌∷◌, ◌++◌, map, length, max, IsSomeAnd, cond, nat_lt}
use Rattle.std.specs.List.{Contains, AllByRecursion}
use Rattle.std.specs.Prelude.{Option}
use mathlib.Core.List.{IsPrefix}
use Rattle.atomic_table.specs.Seated.{TableId}
use Rattle.zot_history.specs.History.{Replays, signed, entries_of}
use Rattle.zot_turn.specs.Turns.{history, turns_of}

-- which shared value it is, and its opening value
pub record Home (O : Type 0) : Type 0 where
  pub table : TableId
  pub opening : Option O

-- what a seat knows: its shared value; the turns that it has seen, the first ones of the one history; its numbers, the acting one first, each with its entries; the numbers that it gave; the most turns that a look has shown it
pub record Standing (O E : Type 0) : Type 0 where
  pub home : Home O
  pub turns : List (ℕ × List E)
  pub mine : List (ℕ × List E)
  pub gave : List ℕ
  pub shown : ℕ

-- the numbers alone, of numbers with their entries
abbrev pub numbers : {E : Type 0} → List (ℕ × List E) → List ℕ
numbers mine = map (λ m. m.0) mine

-- the first number, in which the seat acts
abbrev pub acting : {E : Type 0} → List (ℕ × List E) → ℕ
acting [] = 0
acting (m ∷ ms) = m.0

-- the first number gets these entries, after those that it has
abbrev pub with_entries : {E : Type 0} → List E → List (ℕ × List E) → List (ℕ × List E)
with_entries es [] = []
with_entries es (m ∷ ms) = (m.0, m.1 ++ es) ∷ ms

-- the entries that a seat has seen
abbrev pub seen : {O E : Type 0} → Standing O E → List (ℕ × E)
seen s = history s.turns

-- each of these numbers has just its entries in the history
abbrev pub HasOwn : {E : Type 0} → List (ℕ × List E) → List (ℕ × E) → Type 0
HasOwn mine entries = AllByRecursion (λ m. entries_of m.0 entries ≡ m.1) mine

-- none of the turns is by one of these numbers
abbrev pub Elsewhere : {E : Type 0} → List (ℕ × List E) → List (ℕ × List E) → Type 0
Elsewhere mine turns = AllByRecursion (λ m. turns_of m.0 turns ≡ []) mine

-- the entries lead from the opening value to this one
abbrev pub Stands : {O E : Type 0} → (O → ℕ → E → O → Type 0) → Home O → List (ℕ × E) → O → Type 0
Stands step home entries value = IsSomeAnd home.opening (λ o. Replays step o entries value)

-- `needs` holds of every value that the seat may find: one that a legal history leads to, which begins with what the seat has seen, and in which its numbers have just its entries
abbrev pub IsOwed : {O E : Type 0} → (O → ℕ → E → O → Type 0) → Standing O E → (O → Type 0) → Type 0
IsOwed {O} {E} step s needs = (entries : List (ℕ × E)) (value : O) → IsPrefix (seen s) entries → HasOwn s.mine entries → Stands step s.home entries value → needs value

-- the seat took a turn: others' turns came first, then its job ran once, on the value that stood there, and made these entries, which lead to the value that it left
pub record Turned {O E : Type 0} (step : O → ℕ → E → O → Type 0) (es : List E) (ran : O → O → Type 0) (old new : Standing O E) : Type 0 where
  pub others : List (ℕ × List E)
  pub before : O
  pub after : O
  pub known : new ≡ record old { turns = (old.turns ++ others) ++ (acting old.mine, es) ∷ []; mine = with_entries es old.mine }
  pub seen_is : seen new ≡ (seen old ++ history others) ++ signed (acting old.mine) es
  pub elsewhere : Elsewhere old.mine others
  pub stood : Stands step old.home (history (old.turns ++ others)) before
  pub run : ran before after
  pub made : Replays step before (signed (acting old.mine) es) after
  pub legal : Stands step new.home (seen new) after
  pub own : HasOwn new.mine (seen new)
  pub shown : old.shown ≤ length (old.turns ++ others)

-- the longer of two lists of turns, and the first where they are as long
abbrev pub longer : {E : Type 0} → List (ℕ × List E) → List (ℕ × List E) → List (ℕ × List E)
longer xs ys = cond (nat_lt (length xs) (length ys)) ys xs

-- the shorter of the two
abbrev pub shorter : {E : Type 0} → List (ℕ × List E) → List (ℕ × List E) → List (ℕ × List E)
shorter xs ys = cond (nat_lt (length xs) (length ys)) xs ys

-- the number 0 is the seat's, and so is each number that one of its numbers gave
abbrev pub HasAll : {O E : Type 0} → Standing O E → Type 0
HasAll s = Contains (numbers s.mine) 0 × ((n : ℕ) → Contains s.gave n → Contains (numbers s.mine) n)

-- a seat gave a new seat a number, which it neither had nor gave before; the new seat has seen as much
pub record Parted {O E : Type 0} (old new given : Standing O E) : Type 0 where
  pub number : ℕ
  pub kept : new ≡ record old { gave = old.gave ++ number ∷ [] }
  pub given_is : given ≡ record old { mine = (number, []) ∷ []; gave = [] }
  pub fresh : ¬ Contains (numbers old.mine) number
  pub ungiven : ¬ Contains old.gave number
  pub idle : turns_of number old.turns ≡ []

-- a seat took in another: what the two had seen begins one legal history, and the longer beginning stays, with the numbers, the given numbers and the entries of both
pub record Joined {O E : Type 0} (step : O → ℕ → E → O → Type 0) (old other new : Standing O E) : Type 0 where
  pub known : new ≡ record old { turns = longer old.turns other.turns; mine = old.mine ++ other.mine; gave = old.gave ++ other.gave; shown = max old.shown other.shown }
  pub first : IsPrefix old.turns new.turns
  pub second : IsPrefix other.turns new.turns
  pub own : HasOwn new.mine (seen new)
  pub distinct : (n : ℕ) → Contains (numbers old.mine) n → ¬ Contains (numbers other.mine) n
  pub legal : (value : O) × Stands step new.home (seen new) value

-- the same seat later: its shared value, its numbers and those that it gave are the same, and what it had seen begins what it has seen
pub record IsLater {O E : Type 0} (old new : Standing O E) : Type 0 where
  pub home : new.home ≡ old.home
  pub numbers : numbers new.mine ≡ numbers old.mine
  pub gave : new.gave ≡ old.gave
  pub turns : IsPrefix old.turns new.turns

-- the same seat later: its acting number has these entries more, and its other numbers have none more
pub record HasMade {O E : Type 0} (entries : List E) (old new : Standing O E) : Type 0 where
  pub later : IsLater old new
  pub mine : new.mine ≡ with_entries entries old.mine

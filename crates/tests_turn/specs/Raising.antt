-- For the tests: a number that each turn raises by one, and what a thread did with its seat.
use Rattle.std.specs.Prelude.{◌≡◌, ◌≢◌, ◌<◌, ◌+◌, ◌%◌, ◌^◌, ℕ, List, [], ◌∷◌, length}
use Rattle.zot_turn.specs.Seats.{Home, Standing, Turned, HasMade}

-- the number is raised by one, and the entry is the new number
abbrev pub IsRaise : ℕ → ℕ → ℕ → ℕ → Type 0
IsRaise old n entry new = (new ≡ (old + 1) % 2 ^ 64) × (entry ≡ new)

-- the first seat of a shared value, which has done nothing yet
abbrev pub newcomer : {O E : Type 0} → Home O → Standing O E
newcomer home = record { home = home; turns = []; mine = (0, []) ∷ []; gave = []; shown = 0 }

-- the same seat later, whose acting number has so many entries more
abbrev pub HasMore : {O E : Type 0} → ℕ → Standing O E → Standing O E → Type 0
HasMore {O} {E} count old new = (entries : List E) × (length entries ≡ count) × HasMade entries old new

-- the seat took one turn, and left this number
abbrev pub HasRaised : Standing ℕ ℕ → Standing ℕ ℕ → ℕ → Type 0
HasRaised old new made = Turned IsRaise (made ∷ []) (λ before after. made ≡ after) old new

-- a look showed the seat a turn that it hadn't seen, and then it took one
abbrev pub HasAwaited : Standing ℕ ℕ → Standing ℕ ℕ → ℕ → Type 0
HasAwaited old new made = (shown : ℕ) × (length old.turns < shown) × HasRaised (record old { shown = shown }) new made

-- a seat of the number 0 and of one that this gave, with so many entries of each
pub record IsPair {O E : Type 0} (n m : ℕ) (s : Standing O E) : Type 0 where
  pub given : ℕ
  pub first : List E
  pub second : List E
  pub apart : given ≢ 0
  pub mine : s.mine ≡ (0, first) ∷ (given, second) ∷ []
  pub gave : s.gave ≡ given ∷ []
  pub firsts : length first ≡ n
  pub seconds : length second ≡ m

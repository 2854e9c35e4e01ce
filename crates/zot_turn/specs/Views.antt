-- What a seat's fields show.
use Rattle.std.specs.Prelude.{◌≡◌, ℕ, List, [], ◌∷◌, length, false}
use Rattle.std.specs.Prelude.{Option}
use Rattle.atomic_table.specs.Table.{Me}
use Rattle.atomic_table.specs.Seated.{TableId}
use Rattle.zot_turn.specs.declared.known.Known.{Known}
use Rattle.zot_turn.specs.Seats.{Standing}

-- what a seat of this table shows of what it knows
abbrev pub standing_of : {O E : Type 0} → TableId → Known O E → Standing O E
standing_of table v = record { home = record { table = table; opening = v.opening }; turns = v.turns; mine = v.mine; gave = v.gave; shown = v.shown }

-- between two calls: the seat acts in this number, has seen so many turns, and has no turn, no drawn number and no join at hand
pub record IsAtRest {O E : Type 0} (number turns : ℕ) (me : Me (Option O) (Known O E)) : Type 0 where
  pub entries : List E
  pub others : List (ℕ × List E)
  pub mine : me.0.mine ≡ (number, entries) ∷ others
  pub count : turns ≡ length me.0.turns
  pub beside : me.0.beside ≡ []
  pub ready : me.0.ready ≡ []
  pub holding : me.0.holding ≡ false
  pub slots : me.1 ≡ []

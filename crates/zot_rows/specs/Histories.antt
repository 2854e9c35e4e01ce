-- Histories of a cluster's rows: what happened, each with the number of its row.
use Rattle.std.specs.Prelude.{◌≡◌, ℕ, List, Option, Some, None, IfSome}
use Rattle.zot_history.specs.History.{entries_of, signed}
use Rattle.zot_model.specs.History.{Entry, Run, StandFor}
use Rattle.zot_model.specs.State.{RowState, empty_row}
use Rattle.zot_model.specs.declared.row.RowCall.{RowCall}
use Rattle.zot_model.specs.declared.row.RowReply.{RowReply}

-- the plain rows, by their numbers
abbrev pub RowStates : Type 0
RowStates = ℕ → RowState

-- rows without a repository
abbrev pub empty_rows : RowStates
empty_rows row = empty_row

-- each row goes from its old state to its new one by its own entries, in order
abbrev pub EachRuns : RowStates → List (ℕ × Entry) → RowStates → Type 0
EachRuns old made new = (row : ℕ) → Run (old row) (entries_of row made) (new row)

-- a call on a repository of the row with this number is answered so at a moment: by entries of that row, which stand for it
pub record EntersRow (row : ℕ) (old : RowStates) (call : RowCall) (moment : ℕ) (answer : RowReply) (new : RowStates) : Type 0 where
  pub entries : List Entry
  pub stand : StandFor call moment answer entries
  pub runs : EachRuns old (signed row entries) new

-- a fact of the plain rows before and after, where the stores tell what they hold; they tell after as they did before
abbrev pub BothTell : Option RowStates → Option RowStates → (RowStates → RowStates → Type 0) → Type 0
BothTell None new P = new ≡ None
BothTell (Some old) None P = ⊥
BothTell (Some old) (Some new) P = P old new

-- no row has a storage fault
abbrev pub AreFaultless : Option RowStates → Type 0
AreFaultless states = IfSome states (λ rows. (row : ℕ) → (rows row).faults ≡ 0)

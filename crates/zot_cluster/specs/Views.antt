-- What was seen of the rows of a cluster: what they were when they were opened, and the entries made since.
use Rattle.std.specs.Prelude.{ℕ, List, ◌++◌, Option}
use Rattle.zot_model.specs.History.{Entry}
use Rattle.zot_repo.specs.declared.row_config.RowConfig.{RowConfig}
use Rattle.zot_rows.specs.Histories.{EachRuns, RowStates}
use Rattle.zot_session.specs.Exchanges.{Exchange}
use Rattle.zot_cluster.specs.Entries.{AreEntries}

-- the rows when they were opened, and the entries since, each with the number of its row
pub record View : Type 0 where
  pub opening : RowStates
  pub entries : List (ℕ × Entry)

-- the rows are what a view says: its entries lead from the opening to them
abbrev pub IsOf : View → RowStates → Type 0
IsOf view rows = EachRuns view.opening view.entries rows

-- a view with more entries behind its own
abbrev pub with_entries : View → List (ℕ × Entry) → View
with_entries view made = record { opening = view.opening; entries = view.entries ++ made }

-- the entries of some exchanges at the member with this number are behind those of a view, and the rows are what both say
pub record Follows (config : RowConfig) (member : ℕ) (told : Option ℕ) (view : View) (exchanges : List Exchange) (rows : RowStates) : Type 0 where
  pub made : List (ℕ × Entry)
  pub own : AreEntries config member told exchanges made
  pub is_of : IsOf (with_entries view made) rows

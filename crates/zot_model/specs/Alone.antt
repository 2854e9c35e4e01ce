-- A registry with one repository alone.
use Rattle.std.specs.Prelude.{◌≡◌, ℕ, List, map}
use Rattle.std.specs.List.{filter}
use Rattle.std.specs.FinMap as finite
use Rattle.zot_model.specs.History.{Entry, Event, Run, is_of}
use Rattle.zot_model.specs.State.{RepoState, RowState, repo_at}

-- the row with this repository alone
abbrev pub row_with : List ℕ → RepoState → ℕ → RowState
row_with name repo faults = record { repos = finite.insert finite.empty name repo; faults = faults }

-- an entry, but for the faults that it carries
abbrev pub without_faults : Entry → Event × ℕ
without_faults entry = (entry.event, entry.moment)

-- the entries of the repository of this name are by themselves a legal history of a row with that repository alone, which begins without a fault: but for the faults that they carry, which count those of the whole row
pub record StandAlone (name : List ℕ) (old : RowState) (entries : List Entry) (new : RowState) : Type 0 where
  pub alone : List Entry
  pub faults : ℕ
  pub same : map without_faults alone ≡ map without_faults (filter (is_of name) entries)
  pub run : Run (row_with name (repo_at old name) 0) alone (row_with name (repo_at new name) faults)

-- The seats of the rows at the pool: a row's seat has the row's number, and owns the names of the row's repositories in every shard.
use Rattle.std.specs.Prelude.{◌≡◌, ◌==◌, ℕ, Bool, List, IfSome}
use Rattle.std.specs.List.{AllByRecursion}
use Rattle.zot_contents.specs.Holders.{History, PoolEntry, name_in}
use Rattle.zot_contents.specs.Pool.{Holders}
use Rattle.zot_repo.specs.declared.row_config.RowConfig.{RowConfig}
use Rattle.zot_rows.specs.Rows.{row_by}

-- each entry is of the seat of the row that the repository is in of which it speaks
abbrev pub AreOfOwners : RowConfig → List (ℕ × PoolEntry) → Type 0
AreOfOwners config made = AllByRecursion (λ e. IfSome (name_in e.1.call) (λ name. e.0 ≡ row_by config name)) made

-- such entries lead from what was held to what is held
pub record EntersByOwners (config : RowConfig) (held behind : Holders) : Type 0 where
  pub made : List (ℕ × PoolEntry)
  pub owned : AreOfOwners config made
  pub history : History held made behind

-- whether a name is one of a row's
abbrev pub is_of_row : RowConfig → ℕ → List ℕ → Bool
is_of_row config row name = row_by config name == row

-- What a configuration says.
use Rattle.std.specs.Prelude.{ℕ, ◌≤◌, Bool, List, length}

pub record Settings : Type 0 where
  pub root : List ℕ
  pub dedupe : Bool
  pub delay : ℕ
  pub members : List (List ℕ)
  pub key : List ℕ
  pub rounds : ℕ

-- a cluster has 1 to 8 members
pub record IsCounted (members : List (List ℕ)) : Type 0 where
  pub some : 1 ≤ length members
  pub few : length members ≤ 8

-- What a row's call is in the history of a pool of digests: entries of the row's seat, on the repository of the call alone.
use Rattle.std.specs.Prelude.{◌≡◌, ℕ, List, Some}
use Rattle.std.specs.List.{AllByRecursion}
use Rattle.zot_contents.specs.Holders.{History, PoolEntry, name_in}
use Rattle.zot_contents.specs.Pool.{Holders}
use Rattle.zot_history.specs.History.{signed}

-- entries that speak of the repository of a name alone lead from what was held to what is held, whatever the number of the seat that makes them
pub record EntersPool (name : List ℕ) (held behind : Holders) : Type 0 where
  pub entries : List PoolEntry
  pub named : AllByRecursion (λ e. name_in e.call ≡ Some name) entries
  pub history : (seat : ℕ) → History held (signed seat entries) behind

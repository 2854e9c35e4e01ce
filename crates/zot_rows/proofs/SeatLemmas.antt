-- The seats of the rows at the pool own the names of their repositories.
use Rattle.std.proofs.Common.{◌≡◌, eqb-true, ℕ, true, false, List, [], ◌∷◌, Option, Some, None, IfSome, refl, sym, subst, ◌∙◌}
use Rattle.std.specs.Prelude.{unwrap_or, option_map}
use Rattle.std.specs.List.{AllByRecursion}
use Rattle.zot_contents.specs.Holders.{IsOwner, PoolEntry, is_own, name_in}
use Rattle.zot_contents.specs.Pool.{Holders}
use Rattle.zot_history.specs.History.{signed}
use Rattle.zot_pool.specs.Pools.{BothHold}
use Rattle.zot_repo.specs.Seats.{EntersPool}
use Rattle.zot_repo.specs.declared.row_config.RowConfig.{RowConfig}
use Rattle.zot_rows.specs.Rows.{row_by}
use Rattle.zot_rows.specs.Seats.{AreOfOwners, EntersByOwners, is_of_row}

-- entries on a repository, of the seat of its row, are of the owner's seat
owned_by : (config : RowConfig) (name : List ℕ) (entries : List PoolEntry) → AllByRecursion (λ e. name_in e.call ≡ Some name) entries → AreOfOwners config (signed (row_by config name) entries)
owned_by config name [] named = tt
owned_by config name (entry ∷ entries) named =
    (subst (λ (o : Option (List ℕ)). IfSome o (λ one. row_by config name ≡ row_by config one)) (sym named.0) refl, owned_by config name entries named.1)

pub enters_by : (config : RowConfig) (name : List ℕ) (held behind : Holders) → EntersPool name held behind → EntersByOwners config held behind
enters_by config name held behind h = record {
  made = signed (row_by config name) h.entries;
  owned = owned_by config name h.entries h.named;
  history = h.history (row_by config name);
}

by_itself : (old new : Option Holders) (P Q : Holders → Holders → Type 0) → ((held behind : Holders) → P held behind → Q held behind) → BothHold old new P → BothHold old new Q
by_itself None new P Q so h = h
by_itself (Some old) None P Q so h = h
by_itself (Some old) (Some new) P Q so h = so old new h

-- the same of a request on a repository, where the pool's parts tell
pub owners_enter : (config : RowConfig) (name : List ℕ) (found : Option (List ℕ)) (old new : Option Holders) → found ≡ Some name → BothHold old new (λ held behind. IfSome found (λ one. EntersPool one held behind))
    → BothHold old new (EntersByOwners config)
owners_enter config name found old new named h =
    by_itself old new (λ held behind. IfSome found (λ one. EntersPool one held behind)) (EntersByOwners config)
    (λ held behind enters. enters_by config name held behind (subst (λ (o : Option (List ℕ)). IfSome o (λ one. EntersPool one held behind)) named enters)) h

-- ---- the law

owner_at : (config : RowConfig) (row seat : ℕ) (entry : PoolEntry) (found : Option (List ℕ)) → IfSome found (λ name. seat ≡ row_by config name) → unwrap_or (option_map (is_of_row config row) found) false ≡ true → seat ≡ row
owner_at config row seat entry None owned own = cc own
owner_at config row seat entry (Some name) owned own = owned ∙ eqb-true (row_by config name) row own

-- no other seat made entries that speak of a row's names
pub rows_own : (config : RowConfig) (row : ℕ) (made : List (ℕ × PoolEntry)) → AreOfOwners config made → IsOwner row (is_of_row config row) made
rows_own config row [] owned = tt
rows_own config row (entry ∷ made) owned = (λ own. owner_at config row entry.0 entry.1 (name_in entry.1.call) owned.0 own, rows_own config row made owned.1)

-- What `pipe` does over rows in memory.
use Rattle.std.specs.Prelude.{◌≡◌, ℕ, List, Option, IfSome, replicate}
use Rattle.zot_cluster.specs.Entries.{Records}
use Rattle.zot_repo.specs.declared.row_config.RowConfig.{RowConfig}
use Rattle.zot_rows.specs.Histories.{RowStates, empty_rows}
use Rattle.zot_session.specs.Ends.{EndsAs, HasFailed}
use Rattle.zot_session.specs.Session.{Served}
use Rattle.zot_session.specs.declared.end.End.{End}
use Rattle.zot_commands.specs.Program.{exit_status, line_of, pipe_words}

-- the configuration of rows in memory: one member, and a key of 16 zero bytes
abbrev pub memory_config : RowConfig
memory_config = record { members = 1; key = replicate 16 0 }

-- A connection was served over rows without a repository, at the moment that a clock tells, at the only member there is, and ended so; where nothing failed, the end is the one that its bytes give.
-- Rows in memory have no storage fault, so no reply says that the storage failed
pub record Pipes (told : Option ℕ) (end : End) (left_before left_after held_before held_after : Option (List ℕ)) : Type 0 where
  pub table : RowStates
  pub served : Served (λ exchanges. Records memory_config 0 told empty_rows exchanges table) end left_before left_after held_before held_after
  pub of_bytes : ¬ HasFailed end → IfSome left_before (λ bytes. EndsAs bytes end)
  pub faults : (row : ℕ) → (table row).faults ≡ 0

-- where these are the words of `pipe`, a connection was served, and the status and the note are those of its end
abbrev pub RunsPipe : List (List ℕ) → Option ℕ → ℕ → Option (List ℕ) → Option (List ℕ) → Option (List ℕ) → Option (List ℕ) → (List ℕ → Type 0) → Type 0
RunsPipe words told code left_before left_after held_before held_after Noted = words ≡ pipe_words → (end : End) × Pipes told end left_before left_after held_before held_after × (code ≡ exit_status end) × Noted (line_of end)

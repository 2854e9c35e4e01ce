-- Histories of rows, one after another.
use Rattle.std.proofs.Common.{◌≡◌, ◌≢◌, ℕ, List, [], ◌++◌, sym, subst}
use mathlib.Core.Logic.{dite}
use native.Mathlib.Decide.{ℕ_discrete}
use Rattle.zot_history.specs.History.{entries_of, signed}
use Rattle.zot_history.proofs.Histories.{entries_of-append, entries_of_others, entries_of_signed}
use Rattle.zot_history.proofs.Runs.{run_append}
use Rattle.zot_model.proofs.HistoryLemmas.{same_alike, same_itself}
use Rattle.zot_model.specs.History.{Entry, Run, Step}
use Rattle.zot_model.specs.State.{AreSame}
use Rattle.zot_rows.specs.Histories.{EachRuns, RowStates}

-- nothing happened
pub each_itself : (rows : RowStates) → EachRuns rows [] rows
each_itself rows row = same_itself (rows row)

-- rows that are the same for each number
pub each_same : (old new : RowStates) → ((row : ℕ) → AreSame (old row) (new row)) → EachRuns old [] new
each_same old new same row = same row

-- two histories, one after the other
pub each_append : (old mid new : RowStates) (made more : List (ℕ × Entry)) → EachRuns old made mid → EachRuns mid more new → EachRuns old (made ++ more) new
each_append old mid new made more first then row =
    subst (λ es. Run (old row) es (new row)) (sym (entries_of-append row made more))
    (run_append AreSame Step same_alike (old row) (mid row) (new row) (entries_of row made) (entries_of row more) (first row) (then row))

-- entries of one row alone, where the others are the same
pub each_of_row : (place : ℕ) (old new : RowStates) (entries : List Entry) → Run (old place) entries (new place) → ((row : ℕ) → row ≢ place → AreSame (old row) (new row))
    → EachRuns old (signed place entries) new
each_of_row place old new entries ran others row =
    dite (ℕ_discrete place row)
    (λ (is : place ≡ row). subst (λ r. Run (old r) (entries_of r (signed place entries)) (new r)) is (subst (λ es. Run (old place) es (new place)) (sym (entries_of_signed place entries)) ran))
    (λ (apart : place ≢ row). subst (λ es. Run (old row) es (new row)) (sym (entries_of_others row place entries apart)) (others row (λ is. apart (sym is))))

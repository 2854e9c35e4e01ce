-- What the part of a row stands for after a turn of one of its repositories.
use Rattle.std.proofs.Common.{◌≢◌, ℕ, List, Option, Some, None, refl, sym, ap, subst, ◌∙◌}
use Rattle.zot_contents.specs.Pool.{Holders}
use Rattle.zot_layout.proofs.StandsLemmas.{stands_alike}
use Rattle.zot_layout.specs.Stands.{AreAlike, StandsFor, StandsForRow}
use Rattle.zot_layout.specs.Writing.{StandsWhereTold}
use Rattle.zot_model.specs.State.{repo_at}
use Rattle.zot_outside.specs.Objects.{Objects, Told}
use Rattle.zot_repo.proofs.RowLemmas.{repo_is, table_beside}
use Rattle.zot_row.specs.Going.{KeepsOthers, KeepsStanding, LeavesOthers, kept_of}
use Rattle.zot_repo.specs.RowGoing.{KeepsBeside, StandsForTables}
use Rattle.zot_repo.specs.Rows.{SetsTable, Tables, none_held, state_of, table_at, under}
use Rattle.zot_table.proofs.EntryLemmas.{at_each}
use Rattle.zot_table.specs.Standing.{Holds, repo_of}
use Rattle.zot_table.specs.Tables.{RepoTable}

-- ---- what is held doesn't matter to a part

held_alike : (table : RepoTable) (holds after : Holds) → AreAlike (repo_of table holds) (repo_of table after)
held_alike table holds after = record { known = refl; manifests = refl; tags = λ _. refl }

module _ (objects : Objects) (opened : ℕ) (name : List ℕ) (tables : Tables) (held : Holders) (faults : ℕ) where
  -- they stand for the repository of the row just where they do for what is kept of it
  pub stands_kept : StandsFor objects opened name (repo_at (state_of tables held faults) name) → StandsFor objects opened name (kept_of (table_at tables name))
  stands_kept h =
      stands_alike objects opened name (repo_of (table_at tables name) (under held name)) (kept_of (table_at tables name)) (subst (StandsFor objects opened name) (repo_is tables held faults name) h)
      (held_alike (table_at tables name) (under held name) (λ _. None))

  pub kept_stands : StandsFor objects opened name (kept_of (table_at tables name)) → StandsFor objects opened name (repo_at (state_of tables held faults) name)
  kept_stands h =
      subst (StandsFor objects opened name) (sym (repo_is tables held faults name))
      (stands_alike objects opened name (kept_of (table_at tables name)) (repo_of (table_at tables name) (under held name)) h (held_alike (table_at tables name) (λ _. None) (under held name)))

-- a part that stands for what is kept stands for the row, whatever is held and however many faults there were
pub stands_held : (objects : Option Objects) (opened : ℕ) (Own : List ℕ → Type 0) (tables : Tables) (held : Holders) (faults : ℕ) → StandsForTables objects opened Own tables → StandsWhereTold objects opened Own (state_of tables held faults)
stands_held None opened Own tables held faults h = tt
stands_held (Some told) opened Own tables held faults h = λ name own. kept_stands told opened name tables held faults (stands_kept told opened name tables none_held 0 (h name own))

-- ---- one table is set

module _ (Own : List ℕ → Type 0) (opened : ℕ) (old : Tables) (name : List ℕ) (table : RepoTable) (new : Tables) (sets : SetsTable old name table new) (own : Own name) where
  -- another repository is as it was, and so is its layout
  stands_beside : (told now : Objects) → LeavesOthers told name now → StandsForRow told opened Own (state_of old none_held 0) → (other : List ℕ) → other ≢ name → Own other → StandsFor now opened other (repo_at (state_of new none_held 0) other)
  stands_beside told now leaves stands other apart is =
      let h = stands other is in
      subst (StandsFor now opened other)
      (repo_is old none_held 0 other ∙ ap (λ (t : RepoTable). repo_of t (under none_held other)) (sym (table_beside old name table new sets other apart)) ∙ sym (repo_is new none_held 0 other))
      (record { found = h.found; holds = leaves.layouts other apart opened ∙ h.holds; alike = h.alike })

  stands_now : (told now : Objects) → LeavesOthers told name now → StandsFor now opened name (kept_of table) → StandsForRow told opened Own (state_of old none_held 0) → StandsForRow now opened Own (state_of new none_held 0)
  stands_now told now leaves here stands =
      at_each (λ other. Own other → StandsFor now opened other (repo_at (state_of new none_held 0) other)) name
      (λ _. kept_stands now opened name new none_held 0 (subst (λ (t : RepoTable). StandsFor now opened name (kept_of t)) (sym sets.here) here))
      (stands_beside told now leaves stands)

  pub stands_after : (objects later : Option Objects) → KeepsStanding objects name (table_at old name) later table → KeepsOthers objects name (table_at old name) later → StandsForTables objects opened Own old → StandsForTables later opened Own new
  stands_after None later keeps others stands = subst (λ o. StandsForTables o opened Own new) (sym (others opened tt)) tt
  stands_after (Some told) None keeps others stands = tt
  stands_after (Some told) (Some now) keeps others stands =
      let here = stands_kept told opened name old none_held 0 (stands name own) in stands_now told now (others opened here) (keeps opened here) stands

beside_told : (objects later : Option Objects) (name : List ℕ) → Told objects later (λ old new. LeavesOthers old name new) → KeepsBeside objects name later
beside_told None later name h = h
beside_told (Some told) None name h = absurd h
beside_told (Some told) (Some now) name h = h.elsewhere

pub beside_after : (Own : List ℕ → Type 0) (opened : ℕ) (old : Tables) (name : List ℕ) (own : Own name) (objects later : Option Objects) → KeepsOthers objects name (table_at old name) later → StandsForTables objects opened Own old → KeepsBeside objects name later
beside_after Own opened old name own None later others stands = beside_told None later name (others opened tt)
beside_after Own opened old name own (Some told) later others stands = beside_told (Some told) later name (others opened (stands_kept told opened name old none_held 0 (stands name own)))

-- a part that isn't written keeps everything
pub beside_itself : (objects : Option Objects) (name : List ℕ) → KeepsBeside objects name objects
beside_itself None name = refl
beside_itself (Some told) name = λ path _ _. refl

-- The tables of the repositories that a part holds, and what its objects say of each.
use Rattle.std.proofs.Common.{◌≡◌, ◌≢◌, ℕ, Bool, true, false, cond, List, [], ◌∷◌, Option, Some, None, IfSome, is_some, Result, Ok, Err, refl, sym, ap, subst, ◌∙◌}
use Rattle.std.specs.FinMap as finite
use Rattle.std.specs.List.{AllByRecursion}
use Rattle.std.specs.Str.{bytes_eq}
use Rattle.std.proofs.lemmas.Bool.{true≢false}
use Rattle.std.proofs.lemmas.Slice.Eq.{bytes_eq-Decides}
use Rattle.zot_layout.proofs.BackLemmas.{all_of}
use Rattle.zot_layout.specs.Rows.{Opened, OpensRow, layout_of, opened, with_first, with_others}
use Rattle.zot_layout.specs.Stands.{AreAlike, StandsFor, opened_repo, repo_among, repo_of as layout_repo}
use Rattle.zot_layout.specs.declared.index_state.IndexState.{IndexState}
use Rattle.zot_layout.specs.declared.layout_error.LayoutError.{LayoutError}
use Rattle.zot_model.specs.State.{RepoState, fresh}
use Rattle.zot_outside.specs.Objects.{Objects}
use Rattle.zot_table.specs.Opening.{opened_by, opened_table}
use Rattle.zot_repo.proofs.RowLemmas.{set_table, table_beside}
use Rattle.zot_repo.specs.Opening.{with_opened}
use Rattle.zot_repo.specs.Rows.{Tables, table_at}

-- ---- the table of each name

-- the last index of a name, where what came before them was this
abbrev pub index_after : Option IndexState → List Opened → List ℕ → Option IndexState
index_after before [] name = before
index_after before (o ∷ others) name = index_after (cond (bytes_eq o.0 name) (Some o.1) before) others name

pub same_name : (one other : List ℕ) → bytes_eq one other ≡ true → one ≡ other
same_name one other is = (bytes_eq-Decides one other).0 is

pub apart_name : (one other : List ℕ) → bytes_eq one other ≡ false → other ≢ one
apart_name one other is same = true≢false (sym ((bytes_eq-Decides one other).1 (sym same)) ∙ is)

module _ (name : List ℕ) where
  -- a table that was put under a name, and what stands under another
  table_put : (tables : Tables) (o : Opened) (before : Option IndexState) → table_at tables name ≡ opened_by before
      → table_at (finite.insert tables o.0 (opened_table o.1)) name ≡ opened_by (cond (bytes_eq o.0 name) (Some o.1) before)
  table_put tables o before is = split (bytes_eq o.0 name) refl where
    put : Tables
    put = finite.insert tables o.0 (opened_table o.1)

    split : (b : Bool) → bytes_eq o.0 name ≡ b → table_at (finite.insert tables o.0 (opened_table o.1)) name ≡ opened_by (cond b (Some o.1) before)
    split true tied = ap (table_at (finite.insert tables o.0 (opened_table o.1))) (sym (same_name o.0 name tied)) ∙ (set_table tables o.0 (opened_table o.1)).here
    split false free = table_beside tables o.0 (opened_table o.1) (finite.insert tables o.0 (opened_table o.1)) (set_table tables o.0 (opened_table o.1)) name (apart_name o.0 name free) ∙ is

  pub table_opened : (tables : Tables) (os : List Opened) (before : Option IndexState) → table_at tables name ≡ opened_by before → table_at (with_opened tables os) name ≡ opened_by (index_after before os name)
  table_opened tables [] before is = is
  table_opened tables (o ∷ others) before is =
      table_opened (finite.insert tables o.0 (opened_table o.1)) others (cond (bytes_eq o.0 name) (Some o.1) before) (table_put tables o before is)

  -- a fact of each index of the name
  pub after_all : (P : IndexState → Type 0) (os : List Opened) (before : Option IndexState) → AllByRecursion (λ (o : Opened). o.0 ≡ name → P o.1) os → IfSome before P → IfSome (index_after before os name) P
  after_all P [] before all is = is
  after_all P (o ∷ others) before all is = after_all P others (cond (bytes_eq o.0 name) (Some o.1) before) all.1 (split (bytes_eq o.0 name) refl) where
    split : (b : Bool) → bytes_eq o.0 name ≡ b → IfSome (cond b (Some o.1) before) P
    split true tied = all.0 (same_name o.0 name tied)
    split false free = is

  after_some : (os : List Opened) (index : IndexState) → is_some (index_after (Some index) os name) ≡ true
  after_some [] index = refl
  after_some (o ∷ others) index = split (bytes_eq o.0 name) (after_some others) where
    split : (b : Bool) → ((i : IndexState) → is_some (index_after (Some i) others name) ≡ true) → is_some (index_after (cond b (Some o.1) (Some index)) others name) ≡ true
    split true rest = rest o.1
    split false rest = rest index

  -- where there is none, the name isn't among them
  among_none : (os : List Opened) → index_after None os name ≡ None → repo_among os name ≡ fresh
  among_none [] is = refl
  among_none (o ∷ others) is = split (bytes_eq o.0 name) (among_none others) is where
    split : (b : Bool) → (index_after None others name ≡ None → repo_among others name ≡ fresh) → index_after (cond b (Some o.1) None) others name ≡ None → cond b (opened_repo o.1) (repo_among others name) ≡ fresh
    split true rest none = absurd (true≢false (sym (after_some others o.1) ∙ ap is_some none))
    split false rest none = rest none

-- each was read of the objects
module _ (told : Objects) (moment : ℕ) where
  abbrev AreLaid : List Opened → Type 0
  AreLaid os = AllByRecursion (λ (o : Opened). layout_of told o.0 moment ≡ Ok (Some o.1)) os

  laid : (names : List (List ℕ)) (os : List Opened) → opened told moment names ≡ Ok os → AreLaid os
  laid [] os h = let none : [] ≡ os = cc h in subst AreLaid none tt
  laid (n ∷ names) os h = first (layout_of told n moment) refl (laid names) h where
    rest : ((all : List Opened) → opened told moment names ≡ Ok all → AreLaid all) → (found : Option IndexState) → layout_of told n moment ≡ Ok found → (others : Result (List Opened) LayoutError) → opened told moment names ≡ others → with_others n found others ≡ Ok os → AreLaid os
    rest later None at (Ok others) was e = later os (was ∙ e)
    rest later (Some index) at (Ok others) was e = let all : (n, index) ∷ others ≡ os = cc e in subst AreLaid all (at, later others was)
    rest later found at (Err error) was e = cc e

    first : (layout : Result (Option IndexState) LayoutError) → layout_of told n moment ≡ layout → ((all : List Opened) → opened told moment names ≡ Ok all → AreLaid all) → with_first n layout (opened told moment names) ≡ Ok os → AreLaid os
    first (Ok found) at later e = rest later found at (opened told moment names) refl e
    first (Err error) at later e = cc e

  -- the objects hold the index under the name
  pub says_after : (Own : List ℕ → Type 0) (name : List ℕ) (os : List Opened) → OpensRow told Own moment (Ok os) → StandsFor told moment name (repo_among os name) → layout_of told name moment ≡ Ok (index_after None os name)
  says_after Own name os (names, marked, said) stands = by (index_after None os name) refl where
    each : AllByRecursion (λ (o : Opened). o.0 ≡ name → layout_of told name moment ≡ Ok (Some o.1)) os
    each = all_of (λ (o : Opened). layout_of told o.0 moment ≡ Ok (Some o.1)) (λ (o : Opened). o.0 ≡ name → layout_of told name moment ≡ Ok (Some o.1))
        (λ o h same. ap (λ n. layout_of told n moment) (sym same) ∙ h) os (laid names os said)

    unknown : (found : Option IndexState) → layout_of told name moment ≡ Ok found → AreAlike (layout_repo found) (repo_among os name) → repo_among os name ≡ fresh → layout_of told name moment ≡ Ok None
    unknown None says alike none = says
    unknown (Some index) says alike none = absurd (true≢false (sym alike.known ∙ ap (λ (r : RepoState). r.known) none))

    by : (index : Option IndexState) → index_after None os name ≡ index → layout_of told name moment ≡ Ok index
    by None is = unknown stands.found stands.holds stands.alike (among_none name os is)
    by (Some index) is = subst (λ o. IfSome o (λ i. layout_of told name moment ≡ Ok (Some i))) is (after_all name (λ i. layout_of told name moment ≡ Ok (Some i)) os None each tt)

-- That a part stands for a row has one proof at most: a layout is read as one thing.
use Rattle.std.proofs.Common.{◌≡◌, ℕ, List, Option, Some, None, sym, ◌∙◌}
use Rattle.std.specs.Prelude.{Result, Ok}
use Rattle.std.proofs.Props.{props}
use mathlib.Core.HLevel.{is_prop→PathP, Π_prop, Unit-prop}
use Rattle.std.specs.Coded.{Coded-set}
use Rattle.zot_digest.specs.ByteMap.{ByteMap}
use Rattle.zot_layout.specs.Rows.{layout_of}
use Rattle.zot_layout.specs.Stands.{AreAlike, StandsFor, repo_of}
use Rattle.zot_layout.specs.Writing.{StandsWhereTold}
use Rattle.zot_layout.specs.declared.index_state.IndexState.{IndexState}
use Rattle.zot_layout.specs.declared.layout_error.LayoutError.{LayoutError}
use Rattle.zot_manifests.specs.Codes.{bytes_code}
use Rattle.std.specs.FinMap as finite
use Rattle.zot_model.specs.State.{RepoState, RowState, StoredManifest, manifest_code, repo_at}
use Rattle.zot_outside.specs.Objects.{Objects}
use Rattle.zot_repo.specs.RowGoing.{StandsForTables}
use Rattle.zot_repo.specs.Rows.{Tables, none_held, state_of}

found_set : IsSet (Result (Option IndexState) LayoutError)
found_set = hlevel props

manifests_set : IsSet (ByteMap StoredManifest)
manifests_set = Coded-set (finite.code bytes_code manifest_code)

alike_prop : (one other : RepoState) → IsProp (AreAlike one other)
alike_prop one other = hlevel (props, manifests_set)

pub stands_prop : (objects : Objects) (moment : ℕ) (name : List ℕ) (repo : RepoState) → IsProp (StandsFor objects moment name repo)
stands_prop objects moment name repo x y =
    let same : x.found ≡ y.found = cc (sym x.holds ∙ y.holds) in
    λ i. record {
      found = same i;
      holds = is_prop→PathP (λ j. layout_of objects name moment ≡ Ok (same j)) (λ j. found_set (layout_of objects name moment) (Ok (same j))) x.holds y.holds i;
      alike = is_prop→PathP (λ j. AreAlike (repo_of (same j)) repo) (λ j. alike_prop (repo_of (same j)) repo) x.alike y.alike i;
    }

stands_where_prop : (objects : Option Objects) (moment : ℕ) (Own : List ℕ → Type 0) (row : RowState) → IsProp (StandsWhereTold objects moment Own row)
stands_where_prop None moment Own row = Unit-prop
stands_where_prop (Some told) moment Own row = Π_prop (λ name. Π_prop (λ own. stands_prop told moment name (repo_at row name)))

pub row_stands_prop : (objects : Option Objects) (opened : ℕ) (Own : List ℕ → Type 0) (tables : Tables) → IsProp (StandsForTables objects opened Own tables)
row_stands_prop objects opened Own tables = stands_where_prop objects opened Own (state_of tables none_held 0)

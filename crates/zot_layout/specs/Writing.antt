-- What the objects hold of a row's repositories after a write of one of them.
use Rattle.std.specs.Prelude.{◌≡◌, ◌≢◌, ℕ, true, List, Option, Some, None, Ok, IfSome, IsSomeAnd}
use Rattle.std.specs.FinMap as finite
use Rattle.zot_model.specs.State.{RowState}
use Rattle.zot_outside.specs.Objects.{Objects, Told}
use Rattle.zot_layout.specs.Marker.{is_marker}
use Rattle.zot_layout.specs.Paths.{index_path, marker_path}
use Rattle.zot_layout.specs.Rows.{index_by, layout_of}
use Rattle.zot_layout.specs.Stands.{StandsForRow}
use Rattle.zot_layout.specs.declared.index_state.IndexState.{IndexState}

-- the objects stand for a row, where they are told
abbrev pub StandsWhereTold : Option Objects → ℕ → (List ℕ → Type 0) → RowState → Type 0
StandsWhereTold objects moment IsOwn row = IfSome objects (λ told. StandsForRow told moment IsOwn row)

-- a repository is known: its marker is there, and is one
abbrev pub IsKnown : Objects → List ℕ → Type 0
IsKnown objects name = IsSomeAnd (finite.get objects (marker_path name)) (λ marker. is_marker marker ≡ true)

-- it isn't known: it has no marker
abbrev pub IsUnknown : Objects → List ℕ → Type 0
IsUnknown objects name = finite.get objects (marker_path name) ≡ None

-- no object has changed but this repository's marker and index
abbrev pub KeepsElsewhere : Objects → List ℕ → Objects → Type 0
KeepsElsewhere old name new = (path : List ℕ) → path ≢ marker_path name → path ≢ index_path name → finite.get new path ≡ finite.get old path

-- the objects hold this of one repository now, and of each other what they held, at whatever moment they are opened
pub record SetsLayout (old : Objects) (name : List ℕ) (found : Option IndexState) (new : Objects) : Type 0 where
  pub here : (moment : ℕ) → layout_of new name moment ≡ Ok found
  pub beside : (other : List ℕ) → other ≢ name → (moment : ℕ) → layout_of new other moment ≡ layout_of old other moment
  pub elsewhere : KeepsElsewhere old name new

-- they hold of every repository what they held, though this one's marker or index may have been written
pub record KeepsLayouts (old : Objects) (name : List ℕ) (new : Objects) : Type 0 where
  pub all : (other : List ℕ) (moment : ℕ) → layout_of new other moment ≡ layout_of old other moment
  pub elsewhere : KeepsElsewhere old name new

-- its index was put, which is read as this: where it is known it has that now, and where it isn't nothing has changed
pub record PutsIndex (old : Objects) (name : List ℕ) (index : IndexState) (new : Objects) : Type 0 where
  pub says : (moment : ℕ) → index_by name moment (finite.get new (index_path name)) ≡ Ok index
  pub others : (path : List ℕ) → path ≢ index_path name → finite.get new path ≡ finite.get old path
  pub known : IsKnown old name → SetsLayout old name (Some index) new
  pub unknown : IsUnknown old name → KeepsLayouts old name new

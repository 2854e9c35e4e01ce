-- What the objects of a row's part hold of its repositories, repository by repository.
use Rattle.std.specs.Prelude.{◌≡◌, ℕ, if◌then◌else◌, List, [], ◌∷◌, map, Contains, Option, Some, None, Result, Ok, Err, IsSome, ⊤}
use Rattle.std.specs.FinMap as finite
use Rattle.std.specs.List.{AllByRecursion}
use Rattle.std.specs.List.Sorted.{IsStrictlySortedBy}
use Rattle.zot_names.specs.Name.{IsName}
use Rattle.zot_outside.specs.Objects.{Objects, path_cmp}
use Rattle.zot_siphash.specs.Owners as owners
use Rattle.zot_siphash.specs.SipHash.{siphash}
use Rattle.zot_layout.specs.Marker.{is_marker}
use Rattle.zot_layout.specs.Paths.{index_path, marker_path}
use Rattle.zot_layout.specs.Reading.{meaning}
use Rattle.zot_layout.specs.State.{IsIndex}
use Rattle.zot_layout.specs.declared.index_state.IndexState.{IndexState}
use Rattle.zot_layout.specs.declared.layout_error.LayoutError.{LayoutError}
use Rattle.zot_layout.specs.declared.layout_error.LayoutError.TheVariants as errors

-- ---- one repository: its marker and its index

-- an index without manifests and tags
abbrev pub empty_index : IndexState
empty_index = record { manifests = []; tags = [] }

-- what the index says, where a missing one is empty
abbrev pub index_by : List ℕ → ℕ → Option (List ℕ) → Result IndexState LayoutError
index_by name moment None = Ok empty_index
index_by name moment (Some bytes) = meaning (index_path name) bytes moment

abbrev pub known_by : Result IndexState LayoutError → Result (Option IndexState) LayoutError
known_by (Ok index) = Ok (Some index)
known_by (Err error) = Err error

-- what the layout holds: a repository without a marker isn't known, whatever else lies in its folder
abbrev pub layout_by : List ℕ → ℕ → Option (List ℕ) → Option (List ℕ) → Result (Option IndexState) LayoutError
layout_by name moment None index = Ok None
layout_by name moment (Some marker) index = if is_marker marker then known_by (index_by name moment index) else Err (errors.BadIndex (marker_path name) marker)

-- what these objects hold of a repository, or why they have no meaning. The moment stands for those that the index doesn't say
abbrev pub layout_of : Objects → List ℕ → ℕ → Result (Option IndexState) LayoutError
layout_of objects name moment = layout_by name moment (finite.get objects (marker_path name)) (finite.get objects (index_path name))

-- ---- the repositories of a row

-- a name whose repository is of a row, under a key and with so many members
pub record IsOfRow (key : List ℕ) (members row : ℕ) (name : List ℕ) : Type 0 where
  pub named : IsName name
  pub placed : owners.row (siphash key name) members ≡ row

-- these are the names of the row's repositories that have a marker, in the order of the markers' paths
pub record AreMarked (objects : Objects) (IsOwn : List ℕ → Type 0) (names : List (List ℕ)) : Type 0 where
  pub own : AllByRecursion IsOwn names
  pub marked : AllByRecursion (λ name. IsSome (finite.get objects (marker_path name))) names
  pub all : (name : List ℕ) → IsOwn name → IsSome (finite.get objects (marker_path name)) → Contains names name
  pub ascend : IsStrictlySortedBy path_cmp (map marker_path names)

-- a repository with what its index holds
abbrev pub Opened : Type 0
Opened = List ℕ × IndexState

-- repositories whose names are some of these, each with an index
abbrev pub AreIndexes : (List ℕ → Type 0) → List Opened → Type 0
AreIndexes Of repos = AllByRecursion (λ o. Of o.0 × IsIndex o.1) repos

-- one that is known, before others
abbrev pub before : List ℕ → Option IndexState → List Opened → List Opened
before name None others = others
before name (Some index) others = (name, index) ∷ others

abbrev pub with_others : List ℕ → Option IndexState → Result (List Opened) LayoutError → Result (List Opened) LayoutError
with_others name found (Ok others) = Ok (before name found others)
with_others name found (Err error) = Err error

abbrev pub with_first : List ℕ → Result (Option IndexState) LayoutError → Result (List Opened) LayoutError → Result (List Opened) LayoutError
with_first name (Ok found) others = with_others name found others
with_first name (Err error) others = Err error

-- the repositories of these names, or why the first of them that has no meaning has none
abbrev pub opened : Objects → ℕ → List (List ℕ) → Result (List Opened) LayoutError
opened objects moment [] = Ok []
opened objects moment (name ∷ names) = with_first name (layout_of objects name moment) (opened objects moment names)

-- this is what the objects hold of a row: all of its repositories, each once, or why one has no meaning
abbrev pub HoldsRow : Objects → (List ℕ → Type 0) → ℕ → Result (List Opened) LayoutError → Type 0
HoldsRow objects IsOwn moment held = (names : List (List ℕ)) × AreMarked objects IsOwn names × (opened objects moment names ≡ held)

-- the answer is that. Of a store that failed, and without memory, nothing is said
abbrev pub OpensRow : Objects → (List ℕ → Type 0) → ℕ → Result (List Opened) LayoutError → Type 0
OpensRow objects IsOwn moment (Ok repos) = HoldsRow objects IsOwn moment (Ok repos)
OpensRow objects IsOwn moment (Err (errors.BadIndex path text)) = HoldsRow objects IsOwn moment (Err (errors.BadIndex path text))
OpensRow objects IsOwn moment (Err (errors.BadMeta path text)) = HoldsRow objects IsOwn moment (Err (errors.BadMeta path text))
OpensRow objects IsOwn moment (Err errors.Failed) = ⊤
OpensRow objects IsOwn moment (Err errors.NoMemory) = ⊤

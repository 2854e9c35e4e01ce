-- A walk through the paths of a row's part.
use Rattle.std.specs.Prelude.{◌≡◌, ◌≢◌, ℕ, List, Option, Some, None}
use Rattle.zot_layout.specs.Paths.{marker_path}

-- the own repository whose marker has the path, or there is none
abbrev pub IsMarkerOf : (List ℕ → Type 0) → List ℕ → Option (List ℕ) → Type 0
IsMarkerOf IsOwn path None = (name : List ℕ) → IsOwn name → path ≢ marker_path name
IsMarkerOf IsOwn path (Some name) = IsOwn name × (path ≡ marker_path name)

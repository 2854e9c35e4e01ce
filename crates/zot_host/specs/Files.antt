-- What a host says of its files, where it tells them.
use Rattle.std.specs.Prelude.{◌≡◌, List, ℕ, Option, Some, IfSome}
use Rattle.std.specs.FinMap as map
use Rattle.zot_outside.specs.Objects.{Objects}

-- the file of the path has these bytes, where that is told
abbrev pub HasFile : Option Objects → List ℕ → List ℕ → Type 0
HasFile files path bytes = IfSome files (λ told. map.get told path ≡ Some bytes)

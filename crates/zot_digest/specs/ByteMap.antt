-- Finite maps under lists of bytes, in byte order: what contracts see of a map under digests, names or paths.
use Rattle.std.specs.Prelude.{ℕ, List}
use Rattle.std.specs.declared.cmp.Ordering.{Ordering}
use Rattle.std.specs.Cmp.Lexicographic.{slice_cmp}
use Rattle.std.specs.FinMap as map
use Rattle.std.specs.Ordering.{nat_cmp}

-- byte order
abbrev pub byte_cmp : List ℕ → List ℕ → Ordering
byte_cmp = slice_cmp nat_cmp

-- a finite map from lists of bytes
abbrev pub ByteMap : Type 0 → Type 0
ByteMap X = map.FinMap byte_cmp X

-- the finite map that a tree's entries stand for
abbrev pub map_of : {X : Type 0} → List (List ℕ × X) → ByteMap X
map_of es = map.from_entries es

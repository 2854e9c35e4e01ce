-- What a store says of its objects, where it tells them.
use Rattle.std.specs.Prelude.{◌≡◌, ◌≢◌, ℕ, ◌≤◌, List, [], ◌∷◌, ◌++◌, length, take, drop, filter, Option, Some, None, IsSome, IsSomeAnd, IfSome, MatchOption, option_map, unwrap_or}
use Rattle.std.specs.declared.cmp.Ordering.{Ordering}
use Rattle.std.specs.declared.cmp.Ordering.TheVariants.{Less}
use Rattle.std.specs.Cmp.Lexicographic.{slice_cmp}
use Rattle.std.specs.FinMap as map
use Rattle.std.specs.Ordering.{is_lt, nat_cmp}

-- the order of paths, byte by byte
abbrev pub path_cmp : List ℕ → List ℕ → Ordering
path_cmp = slice_cmp nat_cmp

-- objects: bytes by their paths
abbrev pub Objects : Type 0
Objects = map.FinMap path_cmp (List ℕ)

-- the object of a path set to these bytes
abbrev pub with_object : Objects → List ℕ → List ℕ → Objects
with_object objects path bytes = map.insert objects path bytes

-- the bytes of a path's object, or none if there is no object
abbrev pub bytes_at : Objects → List ℕ → List ℕ
bytes_at objects path = unwrap_or (map.get objects path) []

-- one path has this object now, or none, and every other path has what it had
pub record ChangesAt (old : Objects) (path : List ℕ) (object : Option (List ℕ)) (new : Objects) : Type 0 where
  pub here : map.get new path ≡ object
  pub others : (other : List ℕ) → other ≢ path → map.get new other ≡ map.get old other

-- calls at these paths, one after another, led from some objects to others
abbrev pub ChangesAlong : Objects → List (List ℕ) → Objects → Type 0
ChangesAlong old [] new = new ≡ old
ChangesAlong old (path ∷ paths) new = (mid : Objects) × (object : Option (List ℕ)) × ChangesAt old path object mid × ChangesAlong mid paths new

-- a fact of the objects before and after, where they are told; a store tells them after as it did before
abbrev pub Told : Option Objects → Option Objects → (Objects → Objects → Type 0) → Type 0
Told None after P = after ≡ None
Told (Some old) None P = ⊥
Told (Some old) (Some new) P = P old new

-- a call changed the objects in this way; a store that doesn't tell them still doesn't
abbrev pub Makes : Option Objects → (Objects → Objects) → Option Objects → Type 0
Makes before change after = after ≡ option_map change before

-- the objects are as before
abbrev pub Keeps : Option Objects → Option Objects → Type 0
Keeps before after = after ≡ before

-- the path's object was set to these bytes
abbrev pub Puts : Option Objects → List ℕ → List ℕ → Option Objects → Type 0
Puts before path bytes after = Makes before (λ objects. with_object objects path bytes) after

-- these bytes were added at the end of the path's object, or made one
abbrev pub Extends : Option Objects → List ℕ → List ℕ → Option Objects → Type 0
Extends before path bytes after = Makes before (λ objects. with_object objects path (bytes_at objects path ++ bytes)) after

-- there was an object, and another path's was set to its bytes
abbrev pub Copies : Option Objects → List ℕ → List ℕ → Option Objects → Type 0
Copies None source path after = after ≡ None
Copies (Some objects) source path after = (bytes : List ℕ) × (map.get objects source ≡ Some bytes) × (after ≡ Some (with_object objects path bytes))

-- there was an object, and it was removed
abbrev pub Deletes : Option Objects → List ℕ → Option Objects → Type 0
Deletes None path after = after ≡ None
Deletes (Some objects) path after = IsSome (map.get objects path) × (after ≡ Some (map.remove objects path))

-- the path has no object, where that is told
abbrev pub IsMissing : Option Objects → List ℕ → Type 0
IsMissing objects path = IfSome objects (λ told. map.get told path ≡ None)

-- the path's object has so many bytes, where that is told
abbrev pub HasSize : Option Objects → List ℕ → ℕ → Type 0
HasSize objects path n = IfSome objects (λ told. IsSomeAnd (map.get told path) (λ bytes. n ≡ length bytes))

-- n bytes were read into the front of a buffer: those of the path's object from a place on, as far as it reaches and the buffer has room
pub record ReadsAt (objects : Option Objects) (path : List ℕ) (place : ℕ) (buffer : List ℕ) (n : ℕ) : Type 0 where
  pub within : n ≤ length buffer
  pub piece : IfSome objects (λ told. IsSomeAnd (map.get told path) (λ bytes. take n buffer ≡ take (length buffer) (drop place bytes)))

-- a path has an object, and is the least such path that is greater than another
pub record IsNext (objects : Objects) (after path : List ℕ) : Type 0 where
  pub held : IsSome (map.get objects path)
  pub above : path_cmp after path ≡ Less
  pub least : (other : List ℕ) → IsSome (map.get objects other) → path_cmp after other ≡ Less → path_cmp other path ≢ Less

-- no path that is greater has an object
abbrev pub IsLast : Objects → List ℕ → Type 0
IsLast objects after = (other : List ℕ) → IsSome (map.get objects other) → path_cmp after other ≢ Less

-- the next path was found, or there is none, where that is told
abbrev pub Follows : Option Objects → List ℕ → Option (List ℕ) → Type 0
Follows objects after found = IfSome objects (λ told. MatchOption found (IsLast told after) (λ path. IsNext told after path))

-- the paths that have objects and are greater than a path, in order
abbrev pub paths_after : Objects → List ℕ → List (List ℕ)
paths_after objects after = filter (λ path. is_lt (path_cmp after path)) (map.keys objects)

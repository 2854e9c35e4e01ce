-- What a tree says of its files, where it tells them.
use Rattle.std.specs.Prelude.{◌≡◌, ◌≢◌, ℕ, ⊤, true, List, ◌++◌, length, take, Option, Some, None, IfSome, IsSomeAnd, MatchOption, option_map}
use Rattle.std.specs.FinMap as map
use Rattle.zot_folder.specs.Paths.{is_object_path}
use Rattle.zot_folder.specs.declared.tree.Content.{Content}
use Rattle.zot_folder.specs.declared.tree.Content.TheVariants.{Bytes, CopyOf}
use Rattle.zot_folder.specs.declared.tree.Kind.{Kind}
use Rattle.zot_folder.specs.declared.tree.Kind.TheVariants.{File, Folder, Other}
use Rattle.zot_outside.specs.Objects.{ChangesAt, HasSize, IsMissing, Objects, bytes_at, with_object}

-- files: bytes by their paths below the root
abbrev pub Files : Type 0
Files = Objects

-- the objects are the files at the paths that can have one
abbrev pub objects_in : Files → Objects
objects_in files = map.retain_keys files is_object_path

-- the objects of a tree, where it tells its files
abbrev pub objects_of : Option Files → Option Objects
objects_of files = option_map objects_in files

-- a look shows a file of a length exactly where there is one
abbrev pub Shows : Option (List ℕ) → Option Kind → Type 0
Shows file (Some (File n)) = IsSomeAnd file (λ bytes. n ≡ length bytes)
Shows file (Some Folder) = file ≡ None
Shows file (Some Other) = file ≡ None
Shows file None = file ≡ None

abbrev pub ShowsAt : Option Files → List ℕ → Option Kind → Type 0
ShowsAt files path found = IfSome files (λ told. Shows (map.get told path) found)

-- how many bytes what a look found has, if it is a file
abbrev pub file_size : Option Kind → Option ℕ
file_size (Some (File n)) = Some n
file_size (Some Folder) = None
file_size (Some Other) = None
file_size None = None

-- one file was set to these bytes, or none is left there, and every other is as before; a tree that doesn't tell its files still doesn't
abbrev pub Becomes : Option Files → List ℕ → Option (List ℕ) → Option Files → Type 0
Becomes None path file after = after ≡ None
Becomes (Some files) path file after = IsSomeAnd after (ChangesAt files path file)

-- every file but one is as before
abbrev pub KeepsOthers : Option Files → List ℕ → Option Files → Type 0
KeepsOthers None path after = after ≡ None
KeepsOthers (Some files) path after = IsSomeAnd after (λ now. (other : List ℕ) → other ≢ path → map.get now other ≡ map.get files other)

-- the bytes of a content, if they are there
abbrev pub content_in : Files → Content → Option (List ℕ)
content_in files (Bytes bytes) = Some bytes.now
content_in files (CopyOf path) = map.get files path.now

-- a content that is copied is that of an object
abbrev pub IsOfObject : Content → Type 0
IsOfObject (Bytes bytes) = ⊤
IsOfObject (CopyOf path) = is_object_path path.now ≡ true

-- one file was set to a content, which is there, and every other is as before
abbrev pub Receives : Option Files → List ℕ → Content → Option Files → Type 0
Receives None path content after = after ≡ None
Receives (Some files) path content after = IsSomeAnd (content_in files content) (λ bytes. IsSomeAnd after (ChangesAt files path (Some bytes)))

-- a file has a content of these objects, which is there
abbrev pub Holds : Option Files → List ℕ → Option Objects → Content → Type 0
Holds None path objects content = objects ≡ None
Holds (Some files) path objects content = IsSomeAnd objects (λ told. IsSomeAnd (content_in told content) (λ bytes. map.get files path ≡ Some bytes))

-- the object of a path was set to a content, which is there
abbrev pub Stores : Option Objects → List ℕ → Content → Option Objects → Type 0
Stores None path content after = after ≡ None
Stores (Some objects) path content after = IsSomeAnd (content_in objects content) (λ bytes. after ≡ Some (with_object objects path bytes))

-- the path's object has so many bytes, or there is none
abbrev pub HasSizeOrNone : Option Objects → List ℕ → Option ℕ → Type 0
HasSizeOrNone objects path found = MatchOption found (IsMissing objects path) (HasSize objects path)

-- a file has another path now, and the one that was there is gone
pub record Moves (before : Files) (from to : List ℕ) (after : Files) : Type 0 where
  pub here : map.get after to ≡ map.get before from
  pub gone : map.get after from ≡ None
  pub others : (other : List ℕ) → other ≢ from → other ≢ to → map.get after other ≡ map.get before other

abbrev pub Renames : Option Files → List ℕ → List ℕ → Option Files → Type 0
Renames None from to after = after ≡ None
Renames (Some files) from to after = IsSomeAnd after (Moves files from to)

-- these bytes were added at the end of a file, or made one
abbrev pub Grows : Option Files → List ℕ → List ℕ → Option Files → Type 0
Grows None path bytes after = after ≡ None
Grows (Some files) path bytes after = IsSomeAnd after (ChangesAt files path (Some (bytes_at files path ++ bytes)))

-- a file still begins with the bytes that it had, if it was there, and every other file is as before
pub record TearsAt (before : Files) (path : List ℕ) (after : Files) : Type 0 where
  pub begins : IfSome (map.get before path) (λ bytes. (more : List ℕ) × (map.get after path ≡ Some (bytes ++ more)))
  pub others : (other : List ℕ) → other ≢ path → map.get after other ≡ map.get before other

abbrev pub Tears : Option Files → List ℕ → Option Files → Type 0
Tears None path after = after ≡ None
Tears (Some files) path after = IsSomeAnd after (TearsAt files path)

-- a file was cut to its first n bytes
abbrev pub Cuts : Option Files → List ℕ → ℕ → Option Files → Type 0
Cuts None path n after = after ≡ None
Cuts (Some files) path n after = IsSomeAnd after (ChangesAt files path (option_map (take n) (map.get files path)))

-- the object of a path was set to the bytes of a file, which is there
abbrev pub Publishes : Option Files → List ℕ → List ℕ → Option Objects → Type 0
Publishes None fresh path after = after ≡ None
Publishes (Some files) fresh path after = IfSome (map.get files fresh) (λ bytes. after ≡ Some (with_object (objects_in files) path bytes))

-- What the objects of a digest mean: what each repository holds under it.
use Rattle.std.specs.Prelude.{◌≡◌, ◌≢◌, ℕ, List, [], ◌++◌, Option, Some, None, IfSome, IsSome, codes}
use Rattle.std.specs.Coded.{Coded, coded_list, coded_option, coded_ℕ}
use Rattle.std.specs.FinMap as map
use Rattle.hex.specs.Hex.{encode_lower}
use Rattle.zot_digest.specs.ByteMap.{ByteMap}
use Rattle.zot_names.specs.Name.{IsName}
use Rattle.zot_outside.specs.Objects.{Objects}
use Rattle.zot_links.specs.Records.{line_in, record_of}
use Rattle.zot_links.specs.declared.record_line.RecordLine.{RecordLine}

-- ---- where the objects lie

-- the path of a digest's record
unfoldable pub record_path : List ℕ → List ℕ
record_path digest = codes "_cache/sha256/" ++ encode_lower digest

-- the path of the object that a repository has under a digest
unfoldable pub object_path : List ℕ → List ℕ → List ℕ
object_path digest name = (name ++ codes "/blobs/sha256/") ++ encode_lower digest

-- the object of a repository
unfoldable pub object_at : Objects → List ℕ → List ℕ → Option (List ℕ)
object_at objects digest name = map.get objects (object_path digest name)

-- the lines of a digest's record; a record that isn't there has none
abbrev pub record_in : Option (List ℕ) → Option (List RecordLine)
record_in None = Some []
record_in (Some bytes) = record_of bytes

unfoldable pub record_at : Objects → List ℕ → Option (List RecordLine)
record_at objects digest = record_in (map.get objects (record_path digest))

-- the line of a repository in it
abbrev pub line_among : Option (List RecordLine) → List ℕ → Option (Option (List ℕ))
line_among None name = None
line_among (Some lines) name = line_in lines name

abbrev pub line_at : Objects → List ℕ → List ℕ → Option (Option (List ℕ))
line_at objects digest name = line_among (record_at objects digest) name

-- ---- what they mean

-- the origin that a line names: none for the line of a whole object, and where there is no line
abbrev pub origin_of : Option (Option (List ℕ)) → Option (List ℕ)
origin_of None = None
origin_of (Some origin) = origin

-- what a repository holds, by the digest's objects, its own object and its origin: a link stands for its origin's bytes
abbrev pub held_by : (List ℕ → Option (List ℕ)) → Option (List ℕ) → Option (List ℕ) → Option (List ℕ)
held_by object None origin = None
held_by object (Some bytes) None = Some bytes
held_by object (Some bytes) (Some origin) = object origin

-- what a repository holds under a digest
unfoldable pub held : Objects → List ℕ → List ℕ → Option (List ℕ)
held objects digest name = held_by (object_at objects digest) (object_at objects digest name) (origin_of (line_at objects digest name))

-- the objects of a digest have a meaning: its record is one, and each link that has an object has an origin, which has one too and is whole
pub record HasMeaning (objects : Objects) (digest : List ℕ) : Type 0 where
  pub read : IsSome (record_at objects digest)
  pub linked : (name origin : List ℕ) → IsName name → IsSome (object_at objects digest name) → line_at objects digest name ≡ Some (Some origin)
      → IsSome (object_at objects digest origin) × (line_at objects digest origin ≡ Some None)

-- ---- what a shard keeps of a digest in memory

-- its holders, each with the origin of its link, or none where its object is whole
abbrev pub Links : Type 0
Links = ByteMap (Option (List ℕ))

abbrev pub links_code : Coded Links
links_code = map.code (coded_list coded_ℕ) (coded_option (coded_list coded_ℕ))

-- a repository is a whole holder, or a link to another
abbrev pub IsWhole : Links → List ℕ → Type 0
IsWhole links name = map.get links name ≡ Some None

abbrev pub IsLink : Links → List ℕ → List ℕ → Type 0
IsLink links name origin = map.get links name ≡ Some (Some origin)

-- no link needs the object of this repository
abbrev pub IsFree : Links → List ℕ → Type 0
IsFree links name = (other : List ℕ) → map.get links other ≢ Some (Some name)

-- the objects stand for what is kept: holders are those that have an object, with their origins by the record, which are whole and have a line
pub record Stands (objects : Objects) (digest : List ℕ) (links : Links) : Type 0 where
  pub read : IsSome (record_at objects digest)
  pub there : (name : List ℕ) → IsSome (map.get links name) → IsSome (object_at objects digest name)
  pub known : (name : List ℕ) → IsName name → IsSome (object_at objects digest name) → IsSome (map.get links name)
  pub origins : (name : List ℕ) → IsSome (map.get links name) → origin_of (line_at objects digest name) ≡ origin_of (map.get links name)
  pub whole : (name origin : List ℕ) → IsLink links name origin → IsWhole links origin
  pub named : (name origin : List ℕ) → IsLink links name origin → line_at objects digest origin ≡ Some None

-- the same, where the objects are told
abbrev pub StandsWhereTold : Option Objects → List ℕ → Links → Type 0
StandsWhereTold objects digest links = IfSome objects (λ told. Stands told digest links)

-- of the whole holders no two have equal bytes, but for none
abbrev pub IsTight : Objects → List ℕ → Links → Type 0
IsTight objects digest links = (name other bytes : List ℕ) → IsWhole links name → IsWhole links other
    → object_at objects digest name ≡ Some bytes → object_at objects digest other ≡ Some bytes → bytes ≢ [] → name ≡ other

-- no whole holder has these bytes, or there are none
abbrev pub IsFresh : Objects → List ℕ → Links → List ℕ → Type 0
IsFresh objects digest links bytes = bytes ≢ [] → (name : List ℕ) → IsWhole links name → object_at objects digest name ≢ Some bytes

-- What the orders of writes are given, and what they make.
use Rattle.std.specs.Prelude.{◌≡◌, ◌≢◌, ℕ, List, Option, Some, None, IfSome, IsSome, ⊤}
use Rattle.std.specs.FinMap as map
use Rattle.zot_outside.specs.Objects.{Objects}
use Rattle.zot_links.specs.Meaning.{IsFree, IsFresh, IsWhole, Links, object_at}

-- a whole object has its own bytes, and a link those of its origin
abbrev pub bytes_by : Objects → List ℕ → Option (List ℕ) → List ℕ → Option (List ℕ)
bytes_by objects digest None bytes = Some bytes
bytes_by objects digest (Some origin) bytes = object_at objects digest origin

-- the object that a holder is about to stand for has these bytes: its own, or that of its origin
abbrev pub Begins : Objects → List ℕ → List ℕ → Option (List ℕ) → List ℕ → Type 0
Begins objects digest name None bytes = object_at objects digest name ≡ Some bytes
Begins objects digest name (Some origin) bytes = object_at objects digest origin ≡ Some bytes

-- an object that becomes whole has to be fresh, and a link needn't
abbrev pub fresh_whole : Option (List ℕ) → Objects → List ℕ → Links → List ℕ → Type 0
fresh_whole None objects digest links bytes = IsFresh objects digest links bytes
fresh_whole (Some origin) objects digest links bytes = ⊤

-- a holder that no link needs may become a whole one, or a link to another whole one
pub record MayRelink (links : Links) (name : List ℕ) (origin : Option (List ℕ)) : Type 0 where
  pub holder : IsSome (map.get links name)
  pub free : IsFree links name
  pub whole : IfSome origin (IsWhole links)
  pub other : IfSome origin (λ o. o ≢ name)

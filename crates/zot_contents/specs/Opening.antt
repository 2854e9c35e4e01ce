-- What opening a shard of digests finds and answers.
use Rattle.std.specs.Prelude.{◌≡◌, ◌==◌, ℕ, ◌≤◌, if◌then◌else◌, List, Option, None, Some, IfSome, IsSome, ⊤}
use Rattle.std.specs.FinMap as map
use Rattle.std.specs.declared.cmp.Ordering.TheVariants.{Less}
use Rattle.zot_digest.specs.ByteMap.{byte_cmp}
use Rattle.zot_outside.specs.Faults.{Rose}
use Rattle.zot_names.specs.Name.{IsName}
use Rattle.zot_outside.specs.Objects.{Objects}
use Rattle.zot_links.specs.Meaning.{HasMeaning, Links, record_path}
use Rattle.zot_links.specs.Opening.{HasObjects}
use Rattle.zot_contents.specs.Shards.{AllOwn, IsOfShard, Kept, links_at, shard_of}
use Rattle.zot_contents.specs.declared.places.Place.{Place}
use Rattle.zot_contents.specs.declared.layout_fault.LayoutFault.{LayoutFault}
use Rattle.zot_contents.specs.declared.layout_fault.LayoutFault.TheVariants as faults

-- ---- what a walk through the paths of a store finds

-- holders, and one more that is whole, where one is named
abbrev pub with_holder : Links → Option (List ℕ) → Links
with_holder links None = links
with_holder links (Some name) = map.insert links name None

-- what is kept, and an object with its digest and its repository
abbrev pub with_place : Kept → Place → Kept
with_place kept place = map.insert kept place.digest (with_holder (links_at kept place.digest) place.name)

-- the same for the object that was found, if it is of a digest of the shard
abbrev pub noted : ℕ → Kept → Option Place → Kept
noted number kept None = kept
noted number kept (Some place) = if shard_of place.digest == number then with_place kept place else kept

-- these are the digests of the shard that have objects, each with the repositories that have one
pub record AreFound (objects : Objects) (number : ℕ) (found : Kept) : Type 0 where
  pub own : AllOwn number found
  pub holders : (digest : List ℕ) → IsOfShard number digest → HasObjects objects digest (links_at found digest)
  pub named : (digest name : List ℕ) → IsSome (map.get (links_at found digest) name) → IsName name
  pub records : (digest : List ℕ) → IsOfShard number digest → IsSome (map.get objects (record_path digest)) → IsSome (map.get found digest)

-- a fact of the told objects and each shard whose objects were found
abbrev pub WhereFound : Option Objects → Kept → (Objects → ℕ → Type 0) → Type 0
WhereFound objects found P = IfSome objects (λ told. (number : ℕ) → AreFound told number found → P told number)

-- ---- what opening answers

-- each digest of the shard has a meaning
abbrev pub HaveMeaning : Objects → ℕ → Type 0
HaveMeaning objects number = (digest : List ℕ) → IsOfShard number digest → HasMeaning objects digest

-- the least digest of the shard that has no meaning has its record at this path, with this text
pub record IsFirstBad (objects : Objects) (number : ℕ) (path text : List ℕ) : Type 0 where
  pub digest : List ℕ
  pub own : IsOfShard number digest
  pub place : path ≡ record_path digest
  pub there : map.get objects path ≡ Some text
  pub none : ¬ HasMeaning objects digest
  pub first : (other : List ℕ) → IsOfShard number other → byte_cmp other digest ≡ Less → HasMeaning objects other

-- a fact of the record that is refused
abbrev pub OnBadMeta : LayoutFault → (List ℕ → List ℕ → Type 0) → Type 0
OnBadMeta (faults.BadMeta path text) P = P path text
OnBadMeta faults.Failed P = ⊤
OnBadMeta faults.NoMemory P = ⊤

-- a fact for a store that failed
abbrev pub OnFault : LayoutFault → Type 0 → Type 0
OnFault (faults.BadMeta path text) P = ⊤
OnFault faults.Failed P = P
OnFault faults.NoMemory P = ⊤

-- a fact for every other answer
abbrev pub UnlessFault : LayoutFault → Type 0 → Type 0
UnlessFault (faults.BadMeta path text) P = P
UnlessFault faults.Failed P = ⊤
UnlessFault faults.NoMemory P = P

-- the store's count of faults never falls, rose where the answer is that it failed, and stays where it isn't
pub record HasFaultCause (before after : ℕ) (fault : LayoutFault) : Type 0 where
  pub later : before ≤ after
  pub failed : OnFault fault (Rose before after)
  pub kept : UnlessFault fault (after ≡ before)

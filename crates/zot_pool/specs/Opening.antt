-- What opening a pool finds and answers.
use Rattle.std.specs.Prelude.{◌≡◌, ℕ, ◌+◌, ◌<◌, List, [], ◌∷◌, ◌++◌, length, Bool, Option, IfSome, slice_index, ⊤}
use Rattle.zot_outside.specs.Faults.{Rose}
use Rattle.zot_outside.specs.Objects.{Objects}
use Rattle.zot_outside.specs.declared.stores.store.Store.{Ghosts}
use Rattle.zot_contents.specs.Opening.{HasFaultCause, HaveMeaning, IsFirstBad, OnBadMeta}
use Rattle.zot_contents.specs.Shards.{AreTight, IsTightTree, shards}
use Rattle.zot_contents.specs.declared.layout_fault.LayoutFault.{LayoutFault}
use Rattle.zot_contents.specs.declared.layout_fault.LayoutFault.TheVariants as faults
use Rattle.zot_contents.specs.declared.shard.DigestShard.{DigestShard}
use Rattle.zot_pool.specs.Pools.{ChangesOnly, part_at}
use Rattle.zot_pool.specs.declared.pool_open_error.PoolOpenError.{PoolOpenError}
use Rattle.zot_pool.specs.declared.pool_open_error.PoolOpenError.TheVariants as errors

-- ---- all parts

-- each digest has a meaning, where the part of its shard tells
abbrev pub AllHaveMeaning : List (Option Objects) → Type 0
AllHaveMeaning parts = (number : ℕ) → number < shards → IfSome (part_at parts number) (λ told. HaveMeaning told number)

-- of the whole objects of each digest no two have equal bytes, but for none, where the part of its shard tells
abbrev pub AreTightTrees : List (Option Objects) → Type 0
AreTightTrees parts = (number : ℕ) → number < shards → IfSome (part_at parts number) (λ told. IsTightTree told number)

-- the first shard that has a digest without a meaning has the record of its least at this path, with this text, where the parts tell
pub record IsFirstBadPart (parts : List (Option Objects)) (path text : List ℕ) : Type 0 where
  pub number : ℕ
  pub within : number < shards
  pub here : IfSome (part_at parts number) (λ told. IsFirstBad told number path text)
  pub before : (other : ℕ) → other < number → IfSome (part_at parts other) (λ told. HaveMeaning told other)

-- ---- why a pool isn't opened

-- the error for what the shard with this number answers
abbrev pub open_error : ℕ → LayoutFault → PoolOpenError
open_error number (faults.BadMeta path text) = errors.BadMeta path text
open_error number faults.Failed = errors.Failed number
open_error number faults.NoMemory = errors.NoMemory

-- a fact of the record that is refused
abbrev pub OnBadRecord : PoolOpenError → (List ℕ → List ℕ → Type 0) → Type 0
OnBadRecord (errors.BadMeta path text) P = P path text
OnBadRecord (errors.Failed number) P = ⊤
OnBadRecord errors.NoMemory P = ⊤

-- a fact of the part that failed
abbrev pub OnFailedPart : PoolOpenError → (ℕ → Type 0) → Type 0
OnFailedPart (errors.BadMeta path text) P = ⊤
OnFailedPart (errors.Failed number) P = P number
OnFailedPart errors.NoMemory P = ⊤

-- a fact for every other error
abbrev pub UnlessFailedPart : PoolOpenError → Type 0 → Type 0
UnlessFailedPart (errors.BadMeta path text) P = P
UnlessFailedPart (errors.Failed number) P = ⊤
UnlessFailedPart errors.NoMemory P = P

-- the count of one part rose
pub record RosePart (old new : List ℕ) (number : ℕ) : Type 0 where
  pub within : number < shards
  pub here : Rose (slice_index old number) (slice_index new number)
  pub others : ChangesOnly number old new

-- the count of the part that is named rose, and no other; where none is named, all stay
pub record HasOpenCause (old new : List ℕ) (error : PoolOpenError) : Type 0 where
  pub failed : OnFailedPart error (RosePart old new)
  pub kept : UnlessFailedPart error (new ≡ old)

-- ---- how it is opened, part by part

-- a shard over a part, with its number
pub record IsOpened {S : Type 0} {G : Ghosts S} (dedupe : Bool) (number : ℕ) (part : S) (shard : DigestShard S G) : Type 0 where
  pub objects : G.objects shard.part ≡ G.objects part
  pub faults : G.faults shard.part ≡ G.faults part
  pub number_is : shard.number ≡ number
  pub dedupe_is : shard.dedupe ≡ dedupe
  pub meaning : IfSome (G.objects part) (λ told. HaveMeaning told number)
  pub tight : IfSome (G.objects part) (λ told. IsTightTree told number → AreTight told number shard.digests)

-- shards over parts, in their order, with the numbers from this one on
abbrev pub AreOpened : {S : Type 0} {G : Ghosts S} → Bool → ℕ → List S → List (DigestShard S G) → Type 0
AreOpened dedupe number [] [] = ⊤
AreOpened dedupe number [] (shard ∷ owned) = ⊥
AreOpened dedupe number (part ∷ parts) [] = ⊥
AreOpened dedupe number (part ∷ parts) (shard ∷ owned) = IsOpened dedupe number part shard × AreOpened dedupe (number + 1) parts owned

-- the shards over the first parts are opened; the next part isn't, and is given back with the rest
pub record StopsAt {S : Type 0} {G : Ghosts S} (dedupe : Bool) (parts : List S) (owned : List (DigestShard S G)) (left : List S) (error : PoolOpenError) : Type 0 where
  pub done : List S
  pub part : S
  pub back : S
  pub rest : List S
  pub split : parts ≡ done ++ (part ∷ rest)
  pub left_is : left ≡ back ∷ rest
  pub opened : AreOpened dedupe 0 done owned
  pub objects : G.objects back ≡ G.objects part
  pub fault : LayoutFault
  pub error_is : error ≡ open_error (length done) fault
  pub cause : HasFaultCause (G.faults part) (G.faults back) fault
  pub bad : OnBadMeta fault (λ path text. IfSome (G.objects part) (λ told. IsFirstBad told (length done) path text))

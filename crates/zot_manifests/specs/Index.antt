-- Which values are listed under a digest, so that what names a digest is found without a look at all.
use Rattle.std.specs.Prelude.{◌≡◌, ℕ, Bool, true, false, cond, ◌&&◌, List, Option, Some, None}
use Rattle.std.specs.BTreeMap.{BTreeMap, get, is_at}
use Rattle.std.specs.BTreeSet.{BTreeSet, contains}
use Rattle.std.specs.FinMap as finite
use Rattle.std.specs.Str.{bytes_eq}
use Rattle.std.specs.declared.cmp.Ordering.{Ordering}
use Rattle.zot_digest.specs.ByteMap.{ByteMap, byte_cmp}
use Rattle.zot_manifests.specs.declared.kept.Kept.{Kept}
use Rattle.zot_media.specs.References.{refers}

-- the sets of values under digests
abbrev pub Sets : Type 0 → Type 0
Sets X = BTreeMap (List ℕ) (BTreeSet X)

-- whether a set that may be missing has a value
abbrev pub is_in : {X : Type 0} → (X → X → Ordering) → Option (BTreeSet X) → X → Bool
is_in cmp None value = false
is_in cmp (Some set) value = contains cmp set value

-- whether a value is listed under a digest
abbrev pub has : {X : Type 0} → (X → X → Ordering) → Sets X → List ℕ → X → Bool
has cmp sets digest value = is_in cmp (get byte_cmp sets digest) value

-- ---- what a call does to them

-- nothing is listed
abbrev pub ListsNone : {X : Type 0} → (X → X → Ordering) → Sets X → Type 0
ListsNone {X} cmp sets = (digest : List ℕ) (value : X) → has cmp sets digest value ≡ false

-- what was listed is listed still
abbrev pub KeepsAll : {X : Type 0} → (X → X → Ordering) → Sets X → Sets X → Type 0
KeepsAll {X} cmp old new = (digest : List ℕ) (value : X) → has cmp old digest value ≡ true → has cmp new digest value ≡ true

-- what was listed is listed still, and nothing else is
abbrev pub KeepsJust : {X : Type 0} → (X → X → Ordering) → Sets X → Sets X → Type 0
KeepsJust {X} cmp old new = (digest : List ℕ) (value : X) → has cmp new digest value ≡ has cmp old digest value

-- under the digests that pass a test a value is listed, or isn't; all else is as it was
abbrev pub Changes : {X : Type 0} → (X → X → Ordering) → Bool → (List ℕ → Bool) → X → Sets X → Sets X → Type 0
Changes {X} cmp now passes value old new = (digest : List ℕ) (other : X) → has cmp new digest other ≡ cond (passes digest && is_at (cmp value) other) now (has cmp old digest other)

-- the value is listed under the digests that pass the test; all else is as it was
abbrev pub Adds : {X : Type 0} → (X → X → Ordering) → (List ℕ → Bool) → X → Sets X → Sets X → Type 0
Adds cmp passes value old new = Changes cmp true passes value old new

-- the value is listed no more under the digests that pass the test; all else is as it was
abbrev pub Removes : {X : Type 0} → (X → X → Ordering) → (List ℕ → Bool) → X → Sets X → Sets X → Type 0
Removes cmp passes value old new = Changes cmp false passes value old new

-- nothing is listed under the digest; all else is as it was
abbrev pub Empties : {X : Type 0} → (X → X → Ordering) → List ℕ → Sets X → Sets X → Type 0
Empties {X} cmp digest old new = (asked : List ℕ) (value : X) → has cmp new asked value ≡ cond (bytes_eq digest asked) false (has cmp old asked value)

-- ---- what a map's index lists

-- each key of a map is listed under the digests that its value names. More may be listed: what is found under a digest is looked at
abbrev pub ListsNamed : {X : Type 0} → (X → List ℕ → Bool) → ByteMap X → Sets (List ℕ) → Type 0
ListsNamed {X} names map sets = (key named : List ℕ) (value : X) → finite.get map key ≡ Some value → names value named ≡ true → has byte_cmp sets named key ≡ true

-- each manifest is listed under each digest that it refers to
abbrev pub ListsAll : ByteMap Kept → Sets (List ℕ) → Type 0
ListsAll manifests sets = ListsNamed (λ kept. refers kept.reading) manifests sets

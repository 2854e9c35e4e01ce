-- The tags of an index, grouped by the digests of their manifests.
use Rattle.std.specs.Prelude.{◌≡◌, ℕ, true, false, List, map, Option, Some, None, Vec}
use Rattle.std.specs.Global.{Global}
use Rattle.std.specs.Borrow.{Bor}
use Rattle.std.specs.BTreeMap.{BTreeMap, get}
use Rattle.std.specs.List.{filter, list_any}
use Rattle.zot_digest.specs.ByteMap.{byte_cmp}
use Rattle.zot_layout.specs.State.{is_of}
use Rattle.zot_layout.specs.declared.index_tag.IndexTag.{IndexTag}

-- the group of a digest among these tags: those of its manifest in their order, or none
abbrev pub IsGroup : List IndexTag → List ℕ → Option (Vec (Bor IndexTag) Global) → Type 0
IsGroup tags digest None = list_any (is_of digest) tags ≡ false
IsGroup tags digest (Some group) = (list_any (is_of digest) tags ≡ true) × (map (λ tag. tag.now) group.items ≡ filter (is_of digest) tags)

-- the tags by the digests of their manifests
abbrev pub AreGroups : List IndexTag → BTreeMap (List ℕ) (Vec (Bor IndexTag) Global) → Type 0
AreGroups tags groups = (digest : List ℕ) → IsGroup tags digest (get byte_cmp groups digest)

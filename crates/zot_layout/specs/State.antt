-- What an index holds: the manifests of a repository in the order of their digests, and its tags in byte order.
use Rattle.std.specs.Prelude.{◌≡◌, ℕ, ◌^◌, ◌-◌, ◌<◌, min, Bool, true, List, map}
use Rattle.std.specs.List.{AllByRecursion, list_any}
use Rattle.std.specs.List.Sorted.{IsStrictlySortedBy}
use Rattle.std.specs.Str.{bytes_eq}
use Rattle.zot_digest.specs.ByteMap.{byte_cmp}
use Rattle.zot_digest.specs.Digest.{IsDigest}
use Rattle.zot_names.specs.Tag.{IsTag}
use Rattle.zot_layout.specs.declared.index_manifest.IndexManifest.{IndexManifest}
use Rattle.zot_layout.specs.declared.index_state.IndexState.{IndexState}
use Rattle.zot_layout.specs.declared.index_tag.IndexTag.{IndexTag}

-- a manifest with a digest and a moment
pub record IsManifest (manifest : IndexManifest) : Type 0 where
  pub digest : IsDigest manifest.digest
  pub arrived : manifest.arrived < 2 ^ 64

-- whether a tag is one of the digest's manifest
abbrev pub is_of : List ℕ → IndexTag → Bool
is_of digest tag = bytes_eq tag.digest digest

-- a tag with a moment, of one of these manifests
pub record IsTagOf (manifests : List IndexManifest) (tag : IndexTag) : Type 0 where
  pub named : IsTag tag.tag
  pub pushed : tag.pushed < 2 ^ 64
  pub listed : list_any (λ manifest. is_of manifest.digest tag) manifests ≡ true

-- the state of an index: both lists ascend, and each tag is one of a listed manifest
pub record IsIndex (state : IndexState) : Type 0 where
  pub manifests : AllByRecursion IsManifest state.manifests
  pub tags : AllByRecursion (IsTagOf state.manifests) state.tags
  pub digests_ascend : IsStrictlySortedBy byte_cmp (map (λ manifest. manifest.digest) state.manifests)
  pub tags_ascend : IsStrictlySortedBy byte_cmp (map (λ tag. tag.tag) state.tags)

-- a size as it is written: at most 2 ^ 63 - 1
abbrev pub written_size : ℕ → ℕ
written_size size = min size (2 ^ 63 - 1)

-- the state with its sizes as they are written
abbrev pub as_written : IndexState → IndexState
as_written state = record {
  manifests = map (λ manifest. record { digest = manifest.digest; media = manifest.media; size = written_size manifest.size; arrived = manifest.arrived }) state.manifests;
  tags = state.tags;
}

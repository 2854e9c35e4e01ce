use Rattle.std.proofs.Common.{◌≡◌, ℕ, List, map}
use Rattle.std.specs.BTreeMap.{is_at}
use Rattle.std.specs.FinMap as finite
use Rattle.std.specs.List.{list_any}
use Rattle.std.specs.Map.Iter.{deref}
use Rattle.zot_digest.specs.ByteMap.{byte_cmp}
use Rattle.zot_manifests.specs.Tags.{kept_unless}
use Rattle.zot_manifests.proofs.tag_map.TagMap.remove_each.Given as goal

-- those so far went
abbrev pub invariant-loop-text : goal.invariant-loop-text
invariant-loop-text l = (asked : List ℕ) → finite.get l.self asked ≡ kept_unless (list_any (is_at (byte_cmp asked)) (map deref l.yielded)) l.digest (finite.get l.fn.self asked)

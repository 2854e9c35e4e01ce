use Rattle.std.proofs.Common.{ap}
use Rattle.zot_digest.specs.ByteMap.{map_of}
use Rattle.zot_manifests.proofs.TagLemmas.{tags_empty}
use Rattle.zot_manifests.proofs.tag_map.TagMap.new.Goals as goal

pub invariant_of-result : goal.invariant_of-result
invariant_of-result c = tags_empty (map_of c.new.result.entries) (ap map_of c.new.ensures.empty)

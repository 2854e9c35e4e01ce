use Rattle.std.proofs.Common.{◌≡◌, drop, map}
use Rattle.serde_json.specs.View.{view}
use Rattle.zot_media.specs.Descriptors.{descriptor_of}
use Rattle.zot_media.specs.Fields.{each}
use Rattle.zot_media.proofs.EachLemmas.{after}
use Rattle.zot_media.proofs.descriptors.read_each.Given as goal

abbrev pub invariant-loop-item : goal.invariant-loop-item
invariant-loop-item l = each descriptor_of (map view l.items) ≡ after descriptor_of l.descriptors.items (map view (drop l.item-index l.items))

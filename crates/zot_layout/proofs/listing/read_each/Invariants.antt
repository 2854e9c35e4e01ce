use Rattle.std.proofs.Common.{◌≡◌, drop, map}
use Rattle.serde_json.specs.View.{view}
use Rattle.zot_media.specs.Fields.{each}
use Rattle.zot_media.proofs.EachLemmas.{after}
use Rattle.zot_layout.specs.Notes.{listed_of}
use Rattle.zot_layout.proofs.listing.read_each.Given as goal

abbrev pub invariant-loop-item : goal.invariant-loop-item
invariant-loop-item l = each listed_of (map view l.items) ≡ after listed_of l.listed.items (map view (drop l.item-index l.items))

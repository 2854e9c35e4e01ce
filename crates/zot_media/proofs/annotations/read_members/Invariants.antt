use Rattle.std.proofs.Common.{◌≡◌}
use Rattle.serde_json.specs.View.{members_view}
use Rattle.zot_media.specs.Fields.{each, pairs_of}
use Rattle.zot_media.specs.Manifest.{annotation_of}
use Rattle.zot_media.proofs.EachLemmas.{after}
use Rattle.zot_media.proofs.annotations.read_members.Given as goal

abbrev pub invariant-loop-key : goal.invariant-loop-key
invariant-loop-key l = each annotation_of (pairs_of (members_view l.members.entries)) ≡ after annotation_of l.annotations.items (pairs_of (members_view l.key-iterator))

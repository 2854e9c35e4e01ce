use Rattle.std.proofs.Common.{map}
use Rattle.serde_json.specs.View.{view}
use Rattle.zot_layout.proofs.GroupLemmas.{added}
use Rattle.zot_layout.proofs.descriptors.add_manifest.Goals as goal

pub returns-in-Some : goal.returns-in-Some
returns-in-Some c =
    added c.add_tagged.result (map view c.args.descriptors.now.items) (map view c.add_tagged.new.descriptors.items) c.args.manifest.now c.args.group c.in-Some.group c.as_slice.result.now
    c.in-Some.is c.as_slice.ensures.value c.add_tagged.ensures

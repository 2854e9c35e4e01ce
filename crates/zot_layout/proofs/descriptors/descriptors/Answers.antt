use Rattle.std.proofs.Common.{map, subst, sym}
use Rattle.std.specs.List.{flat_map}
use Rattle.serde_json.specs.View.{view}
use Rattle.zot_layout.specs.Groups.{IsGroup}
use Rattle.zot_layout.specs.Text.{descriptors_of}
use Rattle.zot_layout.proofs.TextLemmas.{walk-more}
use Rattle.zot_layout.proofs.descriptors.descriptors.Goals as goal

pub loop-manifest-preserved : goal.loop-manifest-preserved
loop-manifest-preserved c =
    walk-more (descriptors_of c.args.tags.now) c.args.manifests.now c.loop-manifest.manifest-index c.manifest-item.result (flat_map (descriptors_of c.args.tags.now) c.args.manifests.now)
    (map view c.loop-manifest.descriptors.items) (map view c.add_manifest.new.descriptors.items) c.loop-manifest.invariant c.loop-manifest-test.true c.manifest-item.is
    (c.in_ok-add_manifest.ensures c.args.tags.now (subst (IsGroup c.args.tags.now c.manifest-item.result.digest) (sym c.get-group.ensures.value) (c.in_ok-groups.ensures c.manifest-item.result.digest)))

use Rattle.std.proofs.Common.{◌≡◌, ◌++◌, drop, map}
use Rattle.std.specs.List.{flat_map}
use Rattle.serde_json.specs.View.{view}
use Rattle.zot_layout.specs.Text.{descriptors_of}
use Rattle.zot_layout.proofs.descriptors.descriptors.Given as goal

-- the descriptors so far, with those of the manifests that are left, are all
abbrev pub invariant-loop-manifest : goal.invariant-loop-manifest
invariant-loop-manifest l = flat_map (descriptors_of l.tags) l.manifests ≡ map view l.descriptors.items ++ flat_map (descriptors_of l.tags) (drop l.manifest-index l.manifests)

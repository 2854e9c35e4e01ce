use Rattle.std.proofs.Common.{◌≡◌, Bool, map, take}
use Rattle.zot_model.specs.Retire.{manifests_without}
use Rattle.zot_model.specs.declared.manifest_row.ManifestRow.{ManifestRow}
use Rattle.zot_collect.proofs.leftover.unmarked_manifests.Given as goal

abbrev pub invariant-loop-place : goal.invariant-loop-place
invariant-loop-place l = (test : ManifestRow → Bool) → l.marks ≡ map test l.manifests → l.gone.items ≡ manifests_without test (take l.place l.manifests)

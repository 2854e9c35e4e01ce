use Rattle.std.proofs.Common.{◌||◌, ap, sym, ◌∙◌, take}
use Rattle.std.specs.Str.{bytes_eq}
use Rattle.zot_collect.proofs.TestLemmas.{any_further, or_assoc}
use Rattle.zot_model.specs.Sweep.{holds, is_held}
use Rattle.zot_model.specs.declared.manifest_row.ManifestRow.{ManifestRow}
use Rattle.zot_media.specs.References.{refers}
use Rattle.zot_collect.proofs.held.held_by.Goals as goal

pub loop-manifest-preserved : goal.loop-manifest-preserved
loop-manifest-preserved c = λ digest.
    let row = c.manifest-item.result in
    let so_far = is_held (take c.loop-manifest.manifest-index c.args.manifests.now) digest in
    c.in_ok-add_referred.ensures digest
    ∙ ap (λ b. b || refers row.reading digest) (c.in_ok-add.ensures digest ∙ ap (λ b. b || bytes_eq row.digest digest) (c.loop-manifest.invariant digest))
    ∙ or_assoc so_far (bytes_eq row.digest digest) (refers row.reading digest)
    ∙ sym (any_further (λ (other : ManifestRow). holds other digest) c.args.manifests.now c.loop-manifest.manifest-index row c.loop-manifest-test.true c.manifest-item.is)

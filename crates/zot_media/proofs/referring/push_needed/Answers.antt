use Rattle.zot_media.proofs.ReferenceLemmas.{digests-all, digests-more, digests-same}
use Rattle.zot_media.proofs.referring.push_needed.Goals as goal
use Rattle.zot_media.proofs.referring.push_needed.Goals.{then-not-layer+in_ok-push, else-not-layer}

pub loop-layer-preserved : goal.loop-layer-preserved
loop-layer-preserved c =
    elim c.if-not-layer.branch [
      | then-not-layer+in_ok-push w ↦
          digests-more c.args.layers.now c.loop-layer.layer-index c.layer-item.result _ c.loop-layer.digests.items c.if-not-layer.digests.items c.loop-layer.invariant c.loop-layer-test.true c.layer-item.is
          w.if-not-layer.true (cc (w.in_ok-push.ensures.items, w.digests-is))
      | else-not-layer w ↦
          digests-same c.args.layers.now c.loop-layer.layer-index c.layer-item.result _ c.loop-layer.digests.items c.if-not-layer.digests.items c.loop-layer.invariant c.loop-layer-test.true c.layer-item.is
          w.if-not-layer.false (cc w.digests-is)
    ]

pub returns : goal.returns
returns c = digests-all c.args.layers.now c.loop-layer.layer-index _ _ c.loop-layer.invariant c.loop-layer-test.false

use Rattle.std.proofs.Common.{◌≡◌, ◌++◌, drop}
use Rattle.zot_media.proofs.ReferenceLemmas.{digests_of}
use Rattle.zot_media.proofs.referring.push_needed.Given as goal

abbrev pub invariant-loop-layer : goal.invariant-loop-layer
invariant-loop-layer l = l.initial.digests.items ++ digests_of l.layers ≡ l.digests.items ++ digests_of (drop l.layer-index l.layers)

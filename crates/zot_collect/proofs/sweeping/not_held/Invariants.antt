use Rattle.std.proofs.Common.{◌≡◌, ◌&&◌, not, take}
use Rattle.std.specs.BTreeSet.{contains}
use Rattle.std.specs.List.{filter}
use Rattle.zot_model.specs.Ages.{is_aged}
use Rattle.zot_model.specs.Sweep.{blob_digests}
use Rattle.zot_digest.specs.ByteMap.{byte_cmp}
use Rattle.zot_collect.proofs.sweeping.not_held.Given as goal

abbrev pub invariant-loop-blob : goal.invariant-loop-blob
invariant-loop-blob l =
    l.found.items ≡ blob_digests (filter (λ blob. is_aged l.moment l.delay blob.1 && not (contains byte_cmp l.held blob.0)) (take l.blob-index l.blobs))

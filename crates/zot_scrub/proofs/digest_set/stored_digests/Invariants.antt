use Rattle.std.proofs.Common.{◌≡◌, ℕ, List, take}
use Rattle.std.specs.BTreeSet.{contains}
use Rattle.zot_digest.specs.ByteMap.{byte_cmp}
use Rattle.zot_model.specs.Findings.{has_blob}
use Rattle.zot_scrub.proofs.digest_set.stored_digests.Given as goal

-- the set has the digests of the blobs so far
abbrev pub invariant-loop-blob : goal.invariant-loop-blob
invariant-loop-blob l = (digest : List ℕ) → contains byte_cmp l.stored digest ≡ has_blob (take l.blob-index l.contents) digest

use Rattle.std.proofs.Common.{take}
use Rattle.zot_digest.specs.ByteMap.{byte_cmp}
use Rattle.zot_manifests.specs.Index.{Removes}
use Rattle.zot_media.specs.References.{has_digest}
use Rattle.zot_manifests.proofs.references.Index+Digest.unlist_each.Given as goal

-- under the digests of the descriptors so far
abbrev pub invariant-loop-descriptor : goal.invariant-loop-descriptor
invariant-loop-descriptor l = Removes byte_cmp (λ asked. has_digest asked (take l.descriptor-index l.descriptors)) l.digest l.fn.self.sets l.self.sets

use Rattle.std.proofs.Common.{take}
use Rattle.zot_digest.specs.ByteMap.{byte_cmp}
use Rattle.zot_manifests.specs.Index.{Adds}
use Rattle.zot_media.specs.References.{has_digest}
use Rattle.zot_manifests.proofs.references.Index+Digest.list_each.Given as goal

-- under the digests of the descriptors so far
abbrev pub invariant-loop-descriptor : goal.invariant-loop-descriptor
invariant-loop-descriptor l = Adds byte_cmp (λ asked. has_digest asked (take l.descriptor-index l.descriptors)) l.digest l.fn.self.sets l.self.sets

use Rattle.std.proofs.Common.{List, ℕ, true, take}
use Rattle.zot_digest.specs.ByteMap.{byte_cmp}
use Rattle.zot_manifests.proofs.IndexLemmas.{all_digests, one_digest_more}
use Rattle.zot_manifests.proofs.SetLemmas.{adds_keep, just_keep}
use Rattle.zot_media.specs.References.{has_digest}
use Rattle.zot_manifests.proofs.references.Index+Digest.list_each.Goals as goal

pub loop-descriptor-preserved : goal.loop-descriptor-preserved
loop-descriptor-preserved c =
    one_digest_more true c.args.digest.now c.args.self.now.sets c.loop-descriptor.self.sets c.list.new.self.sets c.args.descriptors.now c.loop-descriptor.descriptor-index c.descriptor-item.result
    c.loop-descriptor-test.true c.descriptor-item.is c.loop-descriptor.invariant c.in_ok-list.ensures.ok

pub returns-in_err-list-clause-keeps : goal.returns-in_err-list-clause-keeps
returns-in_err-list-clause-keeps c = λ q v h.
    just_keep byte_cmp c.loop-descriptor.self.sets c.list.new.self.sets c.in_err-list.ensures.err q v
    (adds_keep byte_cmp (λ (asked : List ℕ). has_digest asked (take c.loop-descriptor.descriptor-index c.args.descriptors.now)) c.args.digest.now c.args.self.now.sets c.loop-descriptor.self.sets c.loop-descriptor.invariant q v h)

pub returns-clause-keeps : goal.returns-clause-keeps
returns-clause-keeps c =
    adds_keep byte_cmp (λ (asked : List ℕ). has_digest asked (take c.loop-descriptor.descriptor-index c.args.descriptors.now)) c.args.digest.now c.args.self.now.sets c.loop-descriptor.self.sets c.loop-descriptor.invariant

pub returns-clause-ok : goal.returns-clause-ok
returns-clause-ok c = all_digests true c.args.digest.now c.args.self.now.sets c.loop-descriptor.self.sets c.args.descriptors.now c.loop-descriptor.descriptor-index c.loop-descriptor-test.false c.loop-descriptor.invariant

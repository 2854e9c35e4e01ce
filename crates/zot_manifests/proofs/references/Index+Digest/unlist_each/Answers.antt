use Rattle.std.proofs.Common.{false}
use Rattle.zot_manifests.proofs.IndexLemmas.{all_digests, one_digest_more}
use Rattle.zot_manifests.proofs.references.Index+Digest.unlist_each.Goals as goal

pub loop-descriptor-preserved : goal.loop-descriptor-preserved
loop-descriptor-preserved c =
    one_digest_more false c.args.digest.now c.args.self.now.sets c.loop-descriptor.self.sets c.unlist.new.self.sets c.args.descriptors.now c.loop-descriptor.descriptor-index c.descriptor-item.result
    c.loop-descriptor-test.true c.descriptor-item.is c.loop-descriptor.invariant c.unlist.ensures

pub returns : goal.returns
returns c = all_digests false c.args.digest.now c.args.self.now.sets c.loop-descriptor.self.sets c.args.descriptors.now c.loop-descriptor.descriptor-index c.loop-descriptor-test.false c.loop-descriptor.invariant

use Rattle.std.specs.BTreeSet.{contains}
use Rattle.std.specs.Str.{bytes_eq}
use Rattle.zot_collect.proofs.SetLemmas.{added_further}
use Rattle.zot_digest.specs.ByteMap.{byte_cmp}
use Rattle.zot_media.specs.declared.descriptor.Descriptor.{Descriptor}
use Rattle.zot_collect.proofs.held.add_each.Goals as goal

pub loop-descriptor-preserved : goal.loop-descriptor-preserved
loop-descriptor-preserved c = λ digest.
    added_further (λ (descriptor : Descriptor). bytes_eq descriptor.digest digest) c.args.descriptors.now c.loop-descriptor.descriptor-index c.descriptor-item.result
    (contains byte_cmp c.args.held.now digest) _ _ c.loop-descriptor-test.true c.descriptor-item.is
    (c.loop-descriptor.invariant digest) (c.in_ok-add.ensures digest)

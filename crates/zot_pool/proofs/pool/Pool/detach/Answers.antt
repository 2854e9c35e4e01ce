use Rattle.std.proofs.Common.{set, subst}
use Rattle.std.specs.Result.{result_err}
use Rattle.zot_outside.specs.Objects.{Told}
use Rattle.zot_links.specs.Meaning.{held}
use Rattle.zot_contents.specs.Pool.{AreSame, Gives, plain_detach}
use Rattle.zot_contents.specs.declared.pool_reply.PoolReply.TheVariants.{Removed}
use Rattle.zot_contents.proofs.HolderLemmas.{detach_of_all, same_of_all}
use Rattle.zot_pool.proofs.PoolLemmas.{both_hold, calls_cause, is_its_own, of_shard_within, pooled_each, pooled_err, set_beside, still_numbered, still_tight}
use Rattle.zot_pool.specs.Pools.{BothHold, ChangesOnly, HasPoolCause, faults_of, holds, objects_of}
use Rattle.zot_pool.proofs.pool.Pool.detach.Goals as goal

pub detach-requires : goal.detach-requires
detach-requires g c =
    let xs = c.args.self.now.shards.items in
    is_its_own xs c.shard_of.result c.index_mut-shard.result.now c.index_mut-shard.result.now
    (of_shard_within xs c.shard_of.result c.args.digest.now c.args.self.now.numbered c.shard_of.ensures.digest) c.index_mut-shard.ensures.value c.args.digest.now c.args.self.now.numbered c.shard_of.ensures.digest

pub invariant_of-self : goal.invariant_of-self
invariant_of-self g c =
    let xs = c.args.self.now.shards.items in
    let within = of_shard_within xs c.shard_of.result c.args.digest.now c.args.self.now.numbered c.shard_of.ensures.digest in
    record { numbered = still_numbered xs c.shard_of.result c.index_mut-shard.result.now c.detach.new.self within c.index_mut-shard.ensures.value c.args.self.now.numbered c.detach.ensures.number; roomy = c.args.self.now.roomy }

pub returns-clause-cause : goal.returns-clause-cause
returns-clause-cause g c =
    let xs = c.args.self.now.shards.items in
    let within = of_shard_within xs c.shard_of.result c.args.digest.now c.args.self.now.numbered c.shard_of.ensures.digest in
    subst (λ i. HasPoolCause i (faults_of xs) (faults_of (set xs c.shard_of.result c.detach.new.self)) (result_err c.pooled.result)) c.shard_of.ensures.value
    (calls_cause xs c.shard_of.result c.index_mut-shard.result.now c.detach.new.self within c.index_mut-shard.ensures.value c.detach.result c.pooled.result c.pooled.ensures c.detach.ensures.missing c.detach.ensures.cause)

pub returns-clause-ok : goal.returns-clause-ok
returns-clause-ok g c =
    let xs = c.args.self.now.shards.items in
    let within = of_shard_within xs c.shard_of.result c.args.digest.now c.args.self.now.numbered c.shard_of.ensures.digest in
    pooled_each c.detach.result c.pooled.result
    (λ was. Told (g.S.Store.objects c.index_mut-shard.result.now.part) (g.S.Store.objects c.detach.new.self.part) (λ old new. Gives (plain_detach (held old) c.args.name.now c.args.digest.now) (Removed was) (held new)))
    (λ was. BothHold (holds (objects_of xs)) (holds (objects_of (set xs c.shard_of.result c.detach.new.self))) (λ old new. Gives (plain_detach old c.args.name.now c.args.digest.now) (Removed was) new))
    c.pooled.ensures
    (λ was told. both_hold xs c.shard_of.result c.index_mut-shard.result.now c.detach.new.self within c.index_mut-shard.ensures.value
    (λ old new. Gives (plain_detach old c.args.name.now c.args.digest.now) (Removed was) new) (λ old new. Gives (plain_detach (held old) c.args.name.now c.args.digest.now) (Removed was) (held new)) told
    (λ old new before after covers then_covers others gives. detach_of_all c.shard_of.result (held old) (held new) before after covers then_covers others c.args.name.now c.args.digest.now (Removed was) c.shard_of.ensures.digest gives))
    c.detach.ensures.ok

pub returns-clause-err : goal.returns-clause-err
returns-clause-err g c =
    let xs = c.args.self.now.shards.items in
    let within = of_shard_within xs c.shard_of.result c.args.digest.now c.args.self.now.numbered c.shard_of.ensures.digest in
    pooled_err c.detach.result c.pooled.result _ _ c.pooled.ensures
    (λ told. both_hold xs c.shard_of.result c.index_mut-shard.result.now c.detach.new.self within c.index_mut-shard.ensures.value AreSame (λ old new. AreSame (held old) (held new)) told
    (λ old new before after covers then_covers others same. same_of_all c.shard_of.result (held old) (held new) before after covers then_covers others same))
    c.detach.ensures.err

pub returns-clause-beside : goal.returns-clause-beside
returns-clause-beside g c =
    subst (λ i. ChangesOnly i c.args.self.now.shards.items (set c.args.self.now.shards.items c.shard_of.result c.detach.new.self)) c.shard_of.ensures.value (set_beside c.args.self.now.shards.items c.shard_of.result c.detach.new.self)

pub returns-clause-tight : goal.returns-clause-tight
returns-clause-tight g c deduped tight =
    let xs = c.args.self.now.shards.items in
    let within = of_shard_within xs c.shard_of.result c.args.digest.now c.args.self.now.numbered c.shard_of.ensures.digest in
    still_tight xs c.shard_of.result c.index_mut-shard.result.now c.detach.new.self within c.index_mut-shard.ensures.value c.detach.ensures.tight c.detach.ensures.number deduped tight

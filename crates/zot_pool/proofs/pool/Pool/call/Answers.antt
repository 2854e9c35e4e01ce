use Rattle.std.proofs.Common.{set, slice_index, sym, subst}
use Rattle.zot_contents.specs.Pool.{MayAnswer}
use Rattle.zot_contents.specs.Shards.{IsCallOf}
use Rattle.zot_pool.proofs.PoolLemmas.{number_is, number_within, set_beside, step_answer, step_cause, step_looks, still_numbered, still_tight}
use Rattle.zot_pool.specs.Pools.{BothHold, ChangesOnly, HasPoolCause, faults_of, holds, objects_of, refusal}
use Rattle.zot_pool.proofs.pool.Pool.call.Goals as goal

pub step-requires : goal.step-requires
step-requires g c =
    let xs = c.args.self.now.shards.items in
    let x = c.index_mut-shard.result.now in
    let within = number_within xs c.shard_in.result c.args.self.now.numbered c.shard_in.ensures.within in
    subst (λ n. IsCallOf n c.args.call.now) (sym (number_is xs c.shard_in.result x x within c.index_mut-shard.ensures.value c.args.self.now.numbered)) c.shard_in.ensures.call

pub invariant_of-self : goal.invariant_of-self
invariant_of-self g c =
    let xs = c.args.self.now.shards.items in
    let within = number_within xs c.shard_in.result c.args.self.now.numbered c.shard_in.ensures.within in
    record { numbered = still_numbered xs c.shard_in.result c.index_mut-shard.result.now c.step.new.self within c.index_mut-shard.ensures.value c.args.self.now.numbered c.step.ensures.number; roomy = c.args.self.now.roomy }

pub returns-clause-answer : goal.returns-clause-answer
returns-clause-answer g c =
    let xs = c.args.self.now.shards.items in
    let ys = set xs c.shard_in.result c.step.new.self in
    let within = number_within xs c.shard_in.result c.args.self.now.numbered c.shard_in.ensures.within in
    subst (λ n. BothHold (holds (objects_of xs)) (holds (objects_of ys)) (λ old new. MayAnswer n (record { held = old; faults = slice_index (faults_of xs) n }) c.args.call.now c.step.result (record { held = new; faults = slice_index (faults_of ys) n }))) c.shard_in.ensures.value
    (step_answer xs c.shard_in.result c.index_mut-shard.result.now c.step.new.self within c.index_mut-shard.ensures.value c.args.call.now c.step.result c.args.self.now.numbered c.shard_in.ensures.call c.step.ensures.answer)

pub returns-clause-cause : goal.returns-clause-cause
returns-clause-cause g c =
    let xs = c.args.self.now.shards.items in
    let within = number_within xs c.shard_in.result c.args.self.now.numbered c.shard_in.ensures.within in
    subst (λ n. HasPoolCause n (faults_of xs) (faults_of (set xs c.shard_in.result c.step.new.self)) (refusal c.step.result)) c.shard_in.ensures.value
    (step_cause xs c.shard_in.result c.index_mut-shard.result.now c.step.new.self within c.index_mut-shard.ensures.value c.step.result c.step.ensures.cause)

pub returns-clause-looks : goal.returns-clause-looks
returns-clause-looks g c =
    let xs = c.args.self.now.shards.items in
    let within = number_within xs c.shard_in.result c.args.self.now.numbered c.shard_in.ensures.within in
    step_looks xs c.shard_in.result c.index_mut-shard.result.now c.step.new.self within c.index_mut-shard.ensures.value c.args.call.now c.step.ensures.looks

pub returns-clause-beside : goal.returns-clause-beside
returns-clause-beside g c =
    subst (λ n. ChangesOnly n c.args.self.now.shards.items (set c.args.self.now.shards.items c.shard_in.result c.step.new.self)) c.shard_in.ensures.value (set_beside c.args.self.now.shards.items c.shard_in.result c.step.new.self)

pub returns-clause-tight : goal.returns-clause-tight
returns-clause-tight g c deduped tight =
    let xs = c.args.self.now.shards.items in
    let within = number_within xs c.shard_in.result c.args.self.now.numbered c.shard_in.ensures.within in
    still_tight xs c.shard_in.result c.index_mut-shard.result.now c.step.new.self within c.index_mut-shard.ensures.value c.step.ensures.tight c.step.ensures.number deduped tight

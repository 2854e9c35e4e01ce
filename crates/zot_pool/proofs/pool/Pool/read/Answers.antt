use Rattle.std.proofs.Common.{◌≡◌, IfSome, option_map, set, subst}
use Rattle.std.specs.Result.{result_err}
use Rattle.zot_links.specs.Meaning.{held}
use Rattle.zot_pool.proofs.PoolLemmas.{is_its_own, objects_kept, of_shard_within, pooled_each, read_cause, read_held, read_tight, set_beside, still_numbered}
use Rattle.zot_pool.specs.Pools.{ChangesOnly, HasReadCause, faults_of, holds, objects_of}
use Rattle.zot_pool.proofs.pool.Pool.read.Goals as goal

pub read-requires : goal.read-requires
read-requires g c =
    let xs = c.args.self.now.shards.items in
    is_its_own xs c.shard_of.result c.index_mut-shard.result.now c.index_mut-shard.result.now
    (of_shard_within xs c.shard_of.result c.args.digest.now c.args.self.now.numbered c.shard_of.ensures.digest) c.index_mut-shard.ensures.value c.args.digest.now c.args.self.now.numbered c.shard_of.ensures.digest

pub invariant_of-self : goal.invariant_of-self
invariant_of-self g c =
    let xs = c.args.self.now.shards.items in
    let within = of_shard_within xs c.shard_of.result c.args.digest.now c.args.self.now.numbered c.shard_of.ensures.digest in
    record { numbered = still_numbered xs c.shard_of.result c.index_mut-shard.result.now c.read.new.self within c.index_mut-shard.ensures.value c.args.self.now.numbered c.read.ensures.number; roomy = c.args.self.now.roomy }

pub returns-clause-cause : goal.returns-clause-cause
returns-clause-cause g c =
    let xs = c.args.self.now.shards.items in
    let within = of_shard_within xs c.shard_of.result c.args.digest.now c.args.self.now.numbered c.shard_of.ensures.digest in
    subst (λ i. HasReadCause i (faults_of xs) (faults_of (set xs c.shard_of.result c.read.new.self)) (result_err c.pooled.result)) c.shard_of.ensures.value
    (read_cause xs c.shard_of.result c.index_mut-shard.result.now c.read.new.self within c.index_mut-shard.ensures.value c.read.result c.pooled.result c.pooled.ensures c.read.ensures.missing c.read.ensures.cause)

pub returns-clause-kept : goal.returns-clause-kept
returns-clause-kept g c =
    let xs = c.args.self.now.shards.items in
    let within = of_shard_within xs c.shard_of.result c.args.digest.now c.args.self.now.numbered c.shard_of.ensures.digest in
    objects_kept xs c.shard_of.result c.index_mut-shard.result.now c.read.new.self within c.index_mut-shard.ensures.value c.read.ensures.kept

pub returns-clause-ok : goal.returns-clause-ok
returns-clause-ok g c =
    let xs = c.args.self.now.shards.items in
    let within = of_shard_within xs c.shard_of.result c.args.digest.now c.args.self.now.numbered c.shard_of.ensures.digest in
    pooled_each c.read.result c.pooled.result
    (λ found. IfSome (g.S.Store.objects c.index_mut-shard.result.now.part) (λ told. option_map (λ v. v.items) found ≡ held told c.args.digest.now c.args.name.now))
    (λ found. IfSome (holds (objects_of xs)) (λ holders. option_map (λ v. v.items) found ≡ holders c.args.digest.now c.args.name.now))
    c.pooled.ensures
    (λ found told. read_held xs c.shard_of.result c.index_mut-shard.result.now c.read.new.self within c.index_mut-shard.ensures.value c.args.digest.now c.args.name.now (option_map (λ v. v.items) found) c.shard_of.ensures.digest told)
    c.read.ensures.ok

pub returns-clause-beside : goal.returns-clause-beside
returns-clause-beside g c =
    subst (λ i. ChangesOnly i c.args.self.now.shards.items (set c.args.self.now.shards.items c.shard_of.result c.read.new.self)) c.shard_of.ensures.value
    (set_beside c.args.self.now.shards.items c.shard_of.result c.read.new.self)

pub returns-clause-tight : goal.returns-clause-tight
returns-clause-tight g c tight =
    let xs = c.args.self.now.shards.items in
    let within = of_shard_within xs c.shard_of.result c.args.digest.now c.args.self.now.numbered c.shard_of.ensures.digest in
    read_tight xs c.shard_of.result c.index_mut-shard.result.now c.read.new.self within c.index_mut-shard.ensures.value c.read.ensures.kept c.read.ensures.digests c.read.ensures.number tight

use Rattle.std.proofs.Common.{◌≡◌, IfSome, map}
use Rattle.std.specs.List.{All}
use Rattle.std.specs.List.Sorted.{IsStrictlySortedBy}
use Rattle.zot_digest.specs.ByteMap.{byte_cmp}
use Rattle.zot_links.specs.Meaning.{held}
use Rattle.zot_contents.specs.Holdings.{AreAllHeld, key_of}
use Rattle.zot_contents.specs.Listing.{place_of, places_of}
use Rattle.zot_contents.specs.Shards.{IsOfShard}
use Rattle.zot_pool.proofs.PoolLemmas.{list_held, list_ordered, list_own, number_within, objects_kept, pooled_each, read_cause, read_tight, set_beside, still_numbered}
use Rattle.zot_pool.specs.Pools.{holds, objects_of}
use Rattle.zot_pool.proofs.pool.Pool.holdings.Goals as goal

pub invariant_of-self : goal.invariant_of-self
invariant_of-self g c =
    let xs = c.args.self.now.shards.items in
    let within = number_within xs c.args.number c.args.self.now.numbered c.requires in
    record { numbered = still_numbered xs c.args.number c.index_mut-shard.result.now c.holdings.new.self within c.index_mut-shard.ensures.value c.args.self.now.numbered c.holdings.ensures.number; roomy = c.args.self.now.roomy }

pub returns-clause-cause : goal.returns-clause-cause
returns-clause-cause g c =
    let xs = c.args.self.now.shards.items in
    let within = number_within xs c.args.number c.args.self.now.numbered c.requires in
    read_cause xs c.args.number c.index_mut-shard.result.now c.holdings.new.self within c.index_mut-shard.ensures.value c.holdings.result c.pooled.result c.pooled.ensures c.holdings.ensures.missing c.holdings.ensures.cause

pub returns-clause-kept : goal.returns-clause-kept
returns-clause-kept g c =
    let xs = c.args.self.now.shards.items in
    let within = number_within xs c.args.number c.args.self.now.numbered c.requires in
    objects_kept xs c.args.number c.index_mut-shard.result.now c.holdings.new.self within c.index_mut-shard.ensures.value c.holdings.ensures.kept

pub returns-clause-ok : goal.returns-clause-ok
returns-clause-ok g c =
    let xs = c.args.self.now.shards.items in
    let x = c.index_mut-shard.result.now in
    let within = number_within xs c.args.number c.args.self.now.numbered c.requires in
    pooled_each c.holdings.result c.pooled.result
    (λ list. IfSome (g.S.Store.objects x.part) (λ told. AreAllHeld x.number (held told) list.items))
    (λ list. IfSome (holds (objects_of xs)) (λ holders. AreAllHeld c.args.number holders list.items))
    c.pooled.ensures
    (λ list told. list_held xs c.args.number x c.holdings.new.self within c.index_mut-shard.ensures.value list.items c.args.self.now.numbered told)
    c.holdings.ensures.ok

pub returns-clause-own : goal.returns-clause-own
returns-clause-own g c =
    let xs = c.args.self.now.shards.items in
    let x = c.index_mut-shard.result.now in
    let within = number_within xs c.args.number c.args.self.now.numbered c.requires in
    pooled_each c.holdings.result c.pooled.result (λ list. map place_of list.items ≡ places_of x.digests) (λ list. All (λ h. IsOfShard c.args.number h.digest) list.items) c.pooled.ensures
    (λ list is. list_own xs c.args.number x c.holdings.new.self within c.index_mut-shard.ensures.value list.items c.args.self.now.numbered is)
    c.holdings.ensures.places

pub returns-clause-ordered : goal.returns-clause-ordered
returns-clause-ordered g c =
    let xs = c.args.self.now.shards.items in
    let x = c.index_mut-shard.result.now in
    let within = number_within xs c.args.number c.args.self.now.numbered c.requires in
    pooled_each c.holdings.result c.pooled.result (λ list. map place_of list.items ≡ places_of x.digests) (λ list. IsStrictlySortedBy byte_cmp (map key_of list.items)) c.pooled.ensures
    (λ list is. list_ordered xs c.args.number x c.holdings.new.self within c.index_mut-shard.ensures.value list.items is)
    c.holdings.ensures.places

pub returns-clause-beside : goal.returns-clause-beside
returns-clause-beside g c = set_beside c.args.self.now.shards.items c.args.number c.holdings.new.self

pub returns-clause-tight : goal.returns-clause-tight
returns-clause-tight g c tight =
    let xs = c.args.self.now.shards.items in
    let within = number_within xs c.args.number c.args.self.now.numbered c.requires in
    read_tight xs c.args.number c.index_mut-shard.result.now c.holdings.new.self within c.index_mut-shard.ensures.value c.holdings.ensures.kept c.holdings.ensures.digests c.holdings.ensures.number tight

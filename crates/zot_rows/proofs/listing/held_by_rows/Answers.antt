use Rattle.std.proofs.Common.{arith, sym, subst, refl, ◌∙◌, IfSome, []}
use Rattle.zot_contents.specs.Holdings.{AreAllHeld}
use Rattle.zot_pool.specs.Pools.{faults_of, holds, objects_of}
use Rattle.zot_rows.proofs.ListingLemmas.{each_apart, each_held, each_own, list_cause, listed_long, listed_more, none_read}
use Rattle.zot_rows.specs.Listing.{AreListed, HasListCause, lists_of}
use Rattle.zot_rows.proofs.listing.held_by_rows.Goals as goal

pub loop-number-init : goal.loop-number-init
loop-number-init g c =
    let told = holds (objects_of c.args.pool.now.shards.items) in
    (record { holdings = []; read = none_read told; lists_are = c.in_ok-lists.ensures c.args.key.now }, refl, refl, λ tight. tight, λ dedupes. dedupes)

pub put_by_row-requires-clause-many : goal.put_by_row-requires-clause-many
put_by_row-requires-clause-many g c =
    listed_long c.args.key.now c.args.members c.loop-number.number (holds (objects_of c.args.pool.now.shards.items)) c.loop-number.lists.items c.loop-number.invariant.0

pub returns-in_err-put_by_row-in-Ok-clause-tight : goal.returns-in_err-put_by_row-in-Ok-clause-tight
returns-in_err-put_by_row-in-Ok-clause-tight g c tight = c.in-Ok.ensures.tight (c.loop-number.invariant.3 tight)

pub returns-in-Err-clause-cause : goal.returns-in-Err-clause-cause
returns-in-Err-clause-cause g c =
    subst (HasListCause (faults_of c.args.pool.now.shards.items) (faults_of c.holdings.new.self.shards.items)) (sym c.refused.ensures)
    (list_cause c.loop-number.pool.shards.items c.holdings.new.self.shards.items (faults_of c.args.pool.now.shards.items) c.loop-number.number c.in-Err.error c.loop-number-test.true
    c.in-Err.ensures.cause c.in-Err.ensures.beside c.loop-number.invariant.2)

pub returns-in-Err-clause-tight : goal.returns-in-Err-clause-tight
returns-in-Err-clause-tight g c tight = c.in-Err.ensures.tight (c.loop-number.invariant.3 tight)

pub returns-in-Err-clause-dedupe : goal.returns-in-Err-clause-dedupe
returns-in-Err-clause-dedupe g c dedupes = c.in-Err.ensures.dedupe (c.loop-number.invariant.4 dedupes)

pub loop-number-preserved : goal.loop-number-preserved
loop-number-preserved g c =
    let told = holds (objects_of c.args.pool.now.shards.items) in
    let objects = c.loop-number.invariant.1 in (
      listed_more c.args.key.now c.args.members c.loop-number.number told (lists_of c.loop-number.lists.items) (lists_of c.put_by_row.new.lists.items) c.in-Ok.holdings.items c.loop-number.invariant.0
          c.in_ok-put_by_row-in-Ok.ensures.named c.in-Ok.ensures.own c.in-Ok.ensures.ordered (subst (λ o. IfSome (holds o) (λ held. AreAllHeld c.loop-number.number held c.in-Ok.holdings.items)) objects c.in-Ok.ensures.ok) c.in_ok-put_by_row-in-Ok.ensures.put,
      c.in-Ok.ensures.kept ∙ objects,
      c.in-Ok.ensures.cause.kept ∙ c.loop-number.invariant.2,
      λ tight. c.in-Ok.ensures.tight (c.loop-number.invariant.3 tight),
      λ dedupes. c.in-Ok.ensures.dedupe (c.loop-number.invariant.4 dedupes),
    )

pub returns-clause-many : goal.returns-clause-many
returns-clause-many g c =
    listed_long c.args.key.now c.args.members c.loop-number.number (holds (objects_of c.args.pool.now.shards.items)) c.loop-number.lists.items c.loop-number.invariant.0

pub returns-clause-own : goal.returns-clause-own
returns-clause-own g c =
    let told = holds (objects_of c.args.pool.now.shards.items) in
    each_own c.args.key.now c.args.members told (lists_of c.loop-number.lists.items)
    (subst (λ n. AreListed c.args.key.now c.args.members n told (lists_of c.loop-number.lists.items)) (omega (arith, c.loop-number-test.false, c.loop-number.auto.number-end)) c.loop-number.invariant.0)

pub returns-clause-apart : goal.returns-clause-apart
returns-clause-apart g c =
    let told = holds (objects_of c.args.pool.now.shards.items) in
    each_apart c.args.key.now c.args.members told (lists_of c.loop-number.lists.items)
    (subst (λ n. AreListed c.args.key.now c.args.members n told (lists_of c.loop-number.lists.items)) (omega (arith, c.loop-number-test.false, c.loop-number.auto.number-end)) c.loop-number.invariant.0)

pub returns-clause-held : goal.returns-clause-held
returns-clause-held g c =
    let told = holds (objects_of c.args.pool.now.shards.items) in
    each_held c.args.key.now c.args.members told (lists_of c.loop-number.lists.items)
    (subst (λ n. AreListed c.args.key.now c.args.members n told (lists_of c.loop-number.lists.items)) (omega (arith, c.loop-number-test.false, c.loop-number.auto.number-end)) c.loop-number.invariant.0)

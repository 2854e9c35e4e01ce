use Rattle.std.proofs.Common.{arith, map as each, sym, ap, subst, ◌∙◌}
use Rattle.zot_pool.specs.Pools.{faults_of}
use Rattle.zot_rows.proofs.OpeningLemmas.{stopped_bad, stopped_cause, stopped_long, stopped_objects}
use Rattle.zot_rows.specs.Listing.{lists_of}
use Rattle.zot_rows.specs.Opening.{HasRowsCause}
use Rattle.zot_rows.proofs.opening.open_rows.Goals as goal

pub give_back-requires : goal.give_back-requires
give_back-requires g c =
    let long = stopped_long c.args.config.now c.args.moment (lists_of c.in_ok-lists.lists.items) c.args.parts.now.items c.open_each.new.rows.items c.open_each.new.parts.items c.in-Err.error c.in-Err.ensures.err in
    omega (arith, long, c.open_each.new.rows.ok.0, c.open_each.new.parts.ok.0, c.args.parts.now.ok.0, c.args.parts.now.ok.1, c.in-Err.ensures.capacity)

pub returns-in-Err-clause-back : goal.returns-in-Err-clause-back
returns-in-Err-clause-back g c =
    ap (each g.S.Store.objects) c.give_back.ensures
    ∙ stopped_objects c.args.config.now c.args.moment (lists_of c.in_ok-lists.lists.items) c.args.parts.now.items c.open_each.new.rows.items c.open_each.new.parts.items c.in-Err.error c.in-Err.ensures.err

pub returns-in-Err-clause-cause : goal.returns-in-Err-clause-cause
returns-in-Err-clause-cause g c =
    let old = faults_of c.args.pool.now.shards.items in
    let new = faults_of c.held_by_rows.new.pool.shards.items in
    subst (λ l. HasRowsCause c.args.config.now.members (each g.S.Store.faults c.args.parts.now.items) (each g.S.Store.faults l) old new c.in-Err.error) (sym c.give_back.ensures)
    (stopped_cause c.args.config.now c.args.moment (lists_of c.in_ok-lists.lists.items) c.args.parts.now.items c.open_each.new.rows.items c.open_each.new.parts.items c.in-Err.error c.in-Err.ensures.err old new c.in_ok-lists.ensures.quiet c.requires.many)

pub returns-in-Err-clause-bad : goal.returns-in-Err-clause-bad
returns-in-Err-clause-bad g c =
    stopped_bad c.args.config.now c.args.moment (lists_of c.in_ok-lists.lists.items) c.args.parts.now.items c.open_each.new.rows.items c.open_each.new.parts.items c.in-Err.error c.in-Err.ensures.err c.requires.many

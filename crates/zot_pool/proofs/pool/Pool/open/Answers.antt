use Rattle.std.proofs.Common.{arith, map, sym, ap, subst, ◌∙◌}
use Rattle.zot_pool.proofs.OpeningLemmas.{back_bad, back_cause, back_objects, opened_deduped, opened_faults, opened_meaning, opened_numbered, opened_objects, opened_tight_pool, stopped_room}
use Rattle.zot_pool.specs.Opening.{HasOpenCause}
use Rattle.zot_pool.proofs.pool.Pool.open.Goals as goal

pub invariant_of-result : goal.invariant_of-result
invariant_of-result g c = record {
  numbered = opened_numbered c.args.dedupe c.args.parts.items c.open_each.new.owned.items c.requires c.in-Ok-open_each.ensures.ok;
  roomy = record { none = c.in-Ok-open_each.ensures.left; enough = omega (arith, c.args.parts.ok.0, c.args.parts.ok.1, c.requires, c.in-Ok-open_each.ensures.capacity) };
}

pub give_back-requires : goal.give_back-requires
give_back-requires g c =
    let long = stopped_room c.args.dedupe c.args.parts.items c.open_each.new.owned.items c.open_each.new.parts.items c.in-Err-open_each.error c.in-Err-open_each.ensures.err in
    omega (arith, long, c.open_each.new.owned.ok.0, c.open_each.new.parts.ok.0, c.args.parts.ok.0, c.args.parts.ok.1, c.in-Err-open_each.ensures.capacity)

pub returns-in-Ok-open_each-clause-objects : goal.returns-in-Ok-open_each-clause-objects
returns-in-Ok-open_each-clause-objects g c = opened_objects c.args.dedupe 0 c.args.parts.items c.open_each.new.owned.items c.in-Ok-open_each.ensures.ok

pub returns-in-Ok-open_each-clause-quiet : goal.returns-in-Ok-open_each-clause-quiet
returns-in-Ok-open_each-clause-quiet g c = opened_faults c.args.dedupe 0 c.args.parts.items c.open_each.new.owned.items c.in-Ok-open_each.ensures.ok

pub returns-in-Ok-open_each-clause-meaning : goal.returns-in-Ok-open_each-clause-meaning
returns-in-Ok-open_each-clause-meaning g c = opened_meaning c.args.dedupe c.args.parts.items c.open_each.new.owned.items c.in-Ok-open_each.ensures.ok

pub returns-in-Ok-open_each-clause-tight : goal.returns-in-Ok-open_each-clause-tight
returns-in-Ok-open_each-clause-tight g c trees = opened_tight_pool c.args.dedupe c.args.parts.items c.open_each.new.owned.items c.requires c.in-Ok-open_each.ensures.ok trees

pub returns-in-Ok-open_each-clause-dedupe : goal.returns-in-Ok-open_each-clause-dedupe
returns-in-Ok-open_each-clause-dedupe g c dedupes = opened_deduped c.args.dedupe 0 c.args.parts.items c.open_each.new.owned.items dedupes c.in-Ok-open_each.ensures.ok

pub returns-in-Err-open_each-clause-back : goal.returns-in-Err-open_each-clause-back
returns-in-Err-open_each-clause-back g c =
    ap (map g.S.Store.objects) c.give_back.ensures ∙ back_objects c.args.dedupe c.args.parts.items c.open_each.new.owned.items c.open_each.new.parts.items c.in-Err-open_each.error c.in-Err-open_each.ensures.err

pub returns-in-Err-open_each-clause-cause : goal.returns-in-Err-open_each-clause-cause
returns-in-Err-open_each-clause-cause g c =
    subst (λ l. HasOpenCause (map g.S.Store.faults c.args.parts.items) (map g.S.Store.faults l) c.in-Err-open_each.error) (sym c.give_back.ensures)
    (back_cause c.args.dedupe c.args.parts.items c.open_each.new.owned.items c.open_each.new.parts.items c.in-Err-open_each.error c.in-Err-open_each.ensures.err c.requires)

pub returns-in-Err-open_each-clause-bad : goal.returns-in-Err-open_each-clause-bad
returns-in-Err-open_each-clause-bad g c = back_bad c.args.dedupe c.args.parts.items c.open_each.new.owned.items c.open_each.new.parts.items c.in-Err-open_each.error c.in-Err-open_each.ensures.err c.requires

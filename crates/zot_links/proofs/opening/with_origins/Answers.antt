use Rattle.std.proofs.Common.{◌≡◌, ◌∷◌, rules, subst}
use Rattle.std.specs.FinMap as map
use Rattle.zot_links.proofs.OpeningLemmas.{HasOpened, opened_more, opened_none, strays_here}
use Rattle.zot_links.proofs.opening.with_origins.Goals as goal

pub loop-name-init : goal.loop-name-init
loop-name-init c =
    let given : c.into_iter-name-iterator.result ≡ c.tree.result.now.entries = search rules in
    opened_none (map.get c.args.lines.now) c.args.found.now c.new-links.result c.into_iter-name-iterator.result (search rules) c.new-links.ensures

pub returns-in_err-origin-clause-bad : goal.returns-in_err-origin-clause-bad
returns-in_err-origin-clause-bad c =
    let next : c.loop-name.name-iterator ≡ (c.in-Some.name.now, c.in-Some.field-0-1.now) ∷ c.next.new.self = search rules in
    λ bad. strays_here (map.get c.args.lines.now) c.args.found.now c.next.new.self c.in-Some.name.now c.in-Some.field-0-1.now c.loop-name.links
    (subst (λ r. HasOpened (map.get c.args.lines.now) c.args.found.now r c.loop-name.links) next c.loop-name.invariant) (c.in_err-origin.ensures.bad (search rules))

pub loop-name-preserved : goal.loop-name-preserved
loop-name-preserved c =
    let next : c.loop-name.name-iterator ≡ (c.in-Some.name.now, c.in-Some.field-0-1.now) ∷ c.next.new.self = search rules in
    let put : c.set.new.self ≡ map.insert c.loop-name.links c.in-Some.name.now c.in_ok-origin.origin = search rules in
    opened_more (map.get c.args.lines.now) c.args.found.now c.next.new.self c.in-Some.name.now c.in-Some.field-0-1.now c.loop-name.links
    (subst (λ r. HasOpened (map.get c.args.lines.now) c.args.found.now r c.loop-name.links) next c.loop-name.invariant)
    c.in_ok-origin.origin c.set.new.self c.in_ok-holder.ensures.named put c.in_ok-origin.ensures.origin c.in_ok-origin.ensures.whole

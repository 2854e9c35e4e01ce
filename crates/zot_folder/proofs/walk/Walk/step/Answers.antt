use Rattle.std.proofs.Common.{rules, ◌∙◌, map, option_map, string_bytes, subst, get_or}
use Rattle.zot_folder.proofs.HeldLemmas.{leads_at, ok_follows, step_at}
use Rattle.zot_folder.specs.Listing.{FindsAbove}
use Rattle.zot_folder.specs.Steps.{IsStep, IsStepAbove, Leads}
use Rattle.zot_folder.specs.Held.{IsWalkOf}
use Rattle.zot_folder.specs.Walks.{Searches}
use Rattle.zot_outside.specs.Objects.{Objects}
use Rattle.zot_folder.specs.declared.listing.Listing.{Listing}
use Rattle.zot_folder.proofs.walk.Walk.step.Goals as goal

pub returns-in_ok-least-in-Some-clause-leads : goal.returns-in_ok-least-in-Some-clause-leads
returns-in_ok-least-in-Some-clause-leads c =
    let spot = c.args.spot.now in
    let after = c.follow.new.self in
    let walk = c.held.new.self in
    let least = option_map string_bytes c.in_ok-least-in-Some.least in
    ok_follows c.follow.result (λ step. IsStep least spot step after)
    (λ step. (objects : Objects) → IsWalkOf objects c.args.self.now → Searches objects (string_bytes c.args.self.now.since) (string_bytes spot.folder) (string_bytes spot.bound) → Leads objects (string_bytes c.args.self.now.since) step after)
    (λ step is objects h.
    subst (λ s. Searches objects (string_bytes s) (string_bytes spot.folder) (string_bytes spot.bound) → Leads objects (string_bytes s) step after) c.in-Some.ensures.since
    (leads_at objects walk spot after least step c.in-Some.at c.in-Some.ensures.fresh (search rules) (c.in-Some.ensures.walk objects h) (λ d. c.in-Some.ensures.folder d ∙ c.folder.ensures)
    (λ (d : Listing). subst (λ b. FindsAbove (map string_bytes (get_or walk.listings.items c.in-Some.at d).paths.items) b least) c.bound.ensures (c.in_ok-least-in-Some.ensures d)) is))
    c.follow.ensures

pub returns-in_ok-least-in-Some-clause-step : goal.returns-in_ok-least-in-Some-clause-step
returns-in_ok-least-in-Some-clause-step c =
    let spot = c.args.spot.now in
    let after = c.follow.new.self in
    let walk = c.held.new.self in
    let least = option_map string_bytes c.in_ok-least-in-Some.least in
    ok_follows c.follow.result (λ step. IsStep least spot step after) (λ step. IsStepAbove spot step after)
    (λ step is. step_at walk spot after least step c.in-Some.at (search rules)
    (λ (d : Listing). subst (λ b. FindsAbove (map string_bytes (get_or walk.listings.items c.in-Some.at d).paths.items) b least) c.bound.ensures (c.in_ok-least-in-Some.ensures d)) is)
    c.follow.ensures

use Rattle.std.proofs.Common.{◌∙◌, subst, sym}
use Rattle.zot_route.specs.declared.routed.Routed.TheVariants as routes
use Rattle.zot_route.specs.Routes.{Routes}
use Rattle.zot_spell.specs.Wire.{with_hop}
use Rattle.zot_delivery.proofs.CarryLemmas.{asks_it, head_there}
use Rattle.zot_delivery.proofs.carrying.carry.Goals as goal

pub head_in-requires : goal.head_in-requires
head_in-requires c =
    head_there c.args.request.now c.args.hop c.has_values.ensures c.requires c.as_slice.result.now c.body_of-body.result.now (c.as_slice.ensures.value ∙ c.in_ok-bytes.ensures) c.body_of-body.ensures

pub unreachable-requires : goal.unreachable-requires
unreachable-requires c =
    let asks = asks_it c.args.request.now c.args.hop c.has_values.ensures c.requires c.as_slice.result.now c.body_of-body.result.now c.in_ok-from_slice.field-0.items c.in_ok-head.head
    (c.as_slice.ensures.value ∙ c.in_ok-bytes.ensures) c.body_of-body.ensures c.in_ok-from_slice.ensures.items c.in_ok-head.ensures in
    let parsed = subst (λ h. Routes h c.in_ok-from_slice.field-0.items (routes.Request (with_hop c.args.request.now c.args.hop))) (sym c.new-parsed.ensures) asks in
    let one = c.in_ok-other.ensures.only (routes.Request (with_hop c.args.request.now c.args.hop)) parsed in
    cc (one, c.in-Refused.is)

pub returns : goal.returns
returns c =
    let asks = asks_it c.args.request.now c.args.hop c.has_values.ensures c.requires c.as_slice.result.now c.body_of-body.result.now c.in_ok-from_slice.field-0.items c.in_ok-head.head
    (c.as_slice.ensures.value ∙ c.in_ok-bytes.ensures) c.body_of-body.ensures c.in_ok-from_slice.ensures.items c.in_ok-head.ensures in
    let parsed = subst (λ h. Routes h c.in_ok-from_slice.field-0.items (routes.Request (with_hop c.args.request.now c.args.hop))) (sym c.new-parsed.ensures) asks in
    let one = c.in_ok-other.ensures.only (routes.Request (with_hop c.args.request.now c.args.hop)) parsed in
    cc (one, c.in-Request.is)

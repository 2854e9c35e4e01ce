use Rattle.std.proofs.Common.{sym, ap, ◌∙◌, arith}
use Rattle.serde_json.specs.View.{items_view}
use Rattle.serde_json.specs.Written.{items_have_float}
use Rattle.serde_json.proofs.Views.{Entry}
use Rattle.zot_config.proofs.WalkLemmas.{item_here, item_later, member_here, member_later}
use Rattle.zot_config.proofs.found.+float.Goals as goal

pub items_have_float-returns-then-has_float : goal.items_have_float-returns-then-has_float
items_have_float-returns-then-has_float t c =
    let l = c.loop-item in
    let xs = c.deref-item-items.result.now in
    let here = item_here xs l.item-index c.item-item.result (omega arith) c.item-item.is (sym c.has_float.ensures ∙ c.if-has_float.true) in
    sym (ap (λ ys. items_have_float (items_view ys)) (sym c.deref-item-items.ensures.value) ∙ l.invariant ∙ here)

pub items_have_float-loop-item-preserved : goal.items_have_float-loop-item-preserved
items_have_float-loop-item-preserved t c =
    let l = c.loop-item in
    let xs = c.deref-item-items.result.now in
    l.invariant ∙ item_later xs l.item-index c.item-item.result (omega arith) c.item-item.is (sym c.has_float.ensures ∙ c.if-has_float.false)

pub members_have_float-returns-then-has_float : goal.members_have_float-returns-then-has_float
members_have_float-returns-then-has_float t c =
    let e : Entry = (c.in-Some.field-0-0.now, c.in-Some.member.now) in
    sym (c.loop-member.invariant ∙ member_here _ c.next.new.self e c.in-Some.ensures.steps (sym c.has_float.ensures ∙ c.if-has_float.true))

pub members_have_float-loop-member-preserved : goal.members_have_float-loop-member-preserved
members_have_float-loop-member-preserved t c =
    let e : Entry = (c.in-Some.field-0-0.now, c.in-Some.member.now) in
    c.loop-member.invariant ∙ member_later _ c.next.new.self e c.in-Some.ensures.steps (sym c.has_float.ensures ∙ c.if-has_float.false)

use Rattle.std.proofs.Common.{◌≡◌, true, Ok, is_ok, sym, ap, ◌∙◌, arith, rules}
use Rattle.std.proofs.lemmas.List.{drop_all}
use Rattle.serde_json.specs.View.{items_view}
use Rattle.zot_config.specs.Table.{members_of}
use Rattle.zot_config.proofs.WalkLemmas.{member_refused, member_right}
use Rattle.zot_config.proofs.cluster.addresses.Goals as goal

pub returns-in_err-address : goal.returns-in_err-address
returns-in_err-address c =
    let l = c.loop-item in
    member_refused _ l.earlier.items c.deref.result.now c.args.items.now l.item-index c.item-item.result c.in_err-address.field-0.0 c.from_residual.result
    (omega arith) c.item-item.is l.invariant c.deref.ensures.value c.in_err-address.ensures (search rules)

pub loop-item-preserved : goal.loop-item-preserved
loop-item-preserved c =
    let l = c.loop-item in
    let ok : is_ok c.push.result ≡ true = search rules in
    let pushed = rw ok at c.push.ensures.items in
    member_right _ l.earlier.items c.deref.result.now c.push.new.self.items c.args.items.now l.item-index c.item-item.result c.in_ok-address.address
    (omega arith) c.item-item.is l.invariant c.deref.ensures.value c.in_ok-address.ensures pushed

pub returns : goal.returns
returns c =
    let l = c.loop-item in
    l.invariant ∙ ap (λ ys. members_of l.earlier.items (items_view ys)) (drop_all l.item-index c.args.items.now (omega arith)) ∙ ap Ok (sym c.new.ensures)

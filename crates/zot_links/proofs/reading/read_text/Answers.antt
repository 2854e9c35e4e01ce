use Rattle.std.proofs.Common.{◌∙◌, [], true, false, Some, ap, sym, rules}
use Rattle.zot_links.specs.Records.{if_in_order, in_order, record_of}
use Rattle.zot_links.proofs.LineLemmas.{by_order, ended, no_feed, no_lines}
use Rattle.zot_links.proofs.reading.read_text.Goals as goal

pub returns-in_default-clause-read : goal.returns-in_default-clause-read
returns-in_default-clause-read c = no_lines c.args.bytes.now c.in_default.ensures.cases ∙ ap Some (sym c.new.ensures.items)

pub returns-then-last-ne10-clause-bad : goal.returns-then-last-ne10-clause-bad
returns-then-last-ne10-clause-bad c = λ _. ap record_of c.in-Some.ensures.cases.0 ∙ no_feed c.in-Some.whole.now c.in-Some.last.now c.if-last-ne10.true

pub returns-in_err-lines-clause-bad : goal.returns-in_err-lines-clause-bad
returns-in_err-lines-clause-bad c =
    λ bad. ended c.args.bytes.now c.in-Some.whole.now c.in-Some.last.now c.in-Some.ensures.cases.0 c.if-last-ne10.false ∙ ap if_in_order (c.in_err-lines.ensures.bad (search rules))

pub returns-then-not-in_order-clause-bad : goal.returns-then-not-in_order-clause-bad
returns-then-not-in_order-clause-bad c =
    let lines = c.in_ok-lines.lines.items in
    λ _. ended c.args.bytes.now c.in-Some.whole.now c.in-Some.last.now c.in-Some.ensures.cases.0 c.if-last-ne10.false ∙ ap if_in_order c.in_ok-lines.ensures.read
    ∙ by_order lines false (ap (in_order []) (sym c.as_slice.ensures.value) ∙ sym c.in_order.ensures ∙ c.if-not-in_order.true)

pub returns-clause-read : goal.returns-clause-read
returns-clause-read c =
    let lines = c.in_ok-lines.lines.items in
    ended c.args.bytes.now c.in-Some.whole.now c.in-Some.last.now c.in-Some.ensures.cases.0 c.if-last-ne10.false ∙ ap if_in_order c.in_ok-lines.ensures.read
    ∙ by_order lines true (ap (in_order []) (sym c.as_slice.ensures.value) ∙ sym c.in_order.ensures ∙ c.if-not-in_order.false)

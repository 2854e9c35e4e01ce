use Rattle.std.proofs.Common.{◌+◌, ◌∙◌, Some, drop, length, ap, sym, rules, tests, arith}
use Rattle.std.specs.List.{slice_split}
use Rattle.std.proofs.lemmas.Iterator.Consumers.{YieldsList-end, YieldsList-turn}
use Rattle.std.proofs.lemmas.Iterator.Splits.{YieldsList-from_slice_split}
use Rattle.std.proofs.lemmas.List.{append-nil, at_drop_all, length_push}
use Rattle.zot_links.specs.Records.{each_line, is_feed}
use Rattle.zot_links.proofs.LineLemmas.{behind, from_none, from_part}
use Rattle.zot_links.proofs.reading.read_lines.Goals as goal

pub returns-in_err-read_line-clause-bad : goal.returns-in_err-read_line-clause-bad
returns-in_err-read_line-clause-bad c =
    let t = YieldsList-turn (YieldsList-from_slice_split _ is_feed c.args.text.now (cc) (cc) (cc) (λ x r q k. search (rules, tests))) c.loop-part.yielded _ c.loop-part.yielded_by _ _ c.in-Some.part c.in-Some.is c.next.ensures.steps in
    let lines = c.loop-part.lines.items in
    λ bad. c.loop-part.invariant ∙ from_none lines c.in-Some.part.now (slice_split is_feed c.args.text.now) (length c.loop-part.yielded) t (c.in_err-read_line.ensures.bad (search rules))

pub loop-part-preserved : goal.loop-part-preserved
loop-part-preserved c =
    let t = YieldsList-turn (YieldsList-from_slice_split _ is_feed c.args.text.now (cc) (cc) (cc) (λ x r q k. search (rules, tests))) c.loop-part.yielded _ c.loop-part.yielded_by _ _ c.in-Some.part c.in-Some.is c.next.ensures.steps in
    let parts = slice_split is_feed c.args.text.now in
    let lines = c.loop-part.lines.items in
    let step = from_part lines c.in_ok-read_line.field-0 c.in-Some.part.now parts (length c.loop-part.yielded) t c.in_ok-read_line.ensures.read in
    c.loop-part.invariant ∙ step ∙ ap (λ ls. behind ls (each_line (drop (length c.loop-part.yielded + 1) parts))) (sym c.in_ok-push.ensures.items)
    ∙ ap (λ n. behind c.push.new.self.items (each_line (drop n parts))) (sym (length_push c.loop-part.yielded c.in-Some.part))

pub returns-clause-read : goal.returns-clause-read
returns-clause-read c =
    let t = YieldsList-end (YieldsList-from_slice_split _ is_feed c.args.text.now (cc) (cc) (cc) (λ x r q k. search (rules, tests))) c.loop-part.yielded _ c.loop-part.yielded_by _ _ c.in-None.is c.next.ensures.steps in
    c.loop-part.invariant ∙ at_drop_all (λ ps. behind c.loop-part.lines.items (each_line ps)) (slice_split is_feed c.args.text.now) (length c.loop-part.yielded) (omega (arith, t.1)) ∙ ap Some (append-nil c.loop-part.lines.items)

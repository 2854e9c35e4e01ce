use Rattle.std.proofs.Common.{◌≡◌, ◌∙◌, Some, sym, subst, ap}
use Rattle.std.specs.Prelude.{IfOk}
use Rattle.zot_links.proofs.LineLemmas.{link_part, no_part, whole_part}
use Rattle.zot_links.specs.Records.{link_line, whole_line}
use Rattle.zot_links.proofs.reading.read_line.Goals as goal

pub returns-in-Some-clause-read : goal.returns-in-Some-clause-read
returns-in-Some-clause-read c =
    let same = whole_part c.args.part.now c.in-Some.ensures.cases.0 ∙ ap whole_line (sym c.in-Some.ensures.cases.1) in
    subst (λ o. IfOk c.read_whole_line.result (λ line. o ≡ Some line)) (sym same) c.read_whole_line.ensures.read

pub returns-in-Some-clause-bad : goal.returns-in-Some-clause-bad
returns-in-Some-clause-bad c =
    let same = whole_part c.args.part.now c.in-Some.ensures.cases.0 ∙ ap whole_line (sym c.in-Some.ensures.cases.1) in
    λ bad. same ∙ c.read_whole_line.ensures.bad bad

pub returns-in-Some-strip_prefix-clause-read : goal.returns-in-Some-strip_prefix-clause-read
returns-in-Some-strip_prefix-clause-read c =
    let same = link_part c.args.part.now c.in_default.ensures.cases c.in-Some-strip_prefix.ensures.cases.0 ∙ ap link_line (sym c.in-Some-strip_prefix.ensures.cases.1) in
    subst (λ o. IfOk c.read_link.result (λ line. o ≡ Some line)) (sym same) c.read_link.ensures.read

pub returns-in-Some-strip_prefix-clause-bad : goal.returns-in-Some-strip_prefix-clause-bad
returns-in-Some-strip_prefix-clause-bad c =
    let same = link_part c.args.part.now c.in_default.ensures.cases c.in-Some-strip_prefix.ensures.cases.0 ∙ ap link_line (sym c.in-Some-strip_prefix.ensures.cases.1) in
    λ bad. same ∙ c.read_link.ensures.bad bad

pub returns-in-None-clause-bad : goal.returns-in-None-clause-bad
returns-in-None-clause-bad c = λ _. no_part c.args.part.now c.in_default.ensures.cases c.in-None.ensures.cases

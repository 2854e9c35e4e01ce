use Rattle.std.proofs.Common.{◌∙◌, ◌++◌, sym, ap, append-nil, arith}
use Rattle.std.proofs.lemmas.List.{drop_all}
use Rattle.zot_links.proofs.RecordLemmas.{reads_again}
use Rattle.zot_links.specs.Records.{record_of, record_text}
use Rattle.zot_links.proofs.record.record_text.Goals as goal

pub returns-clause-comes_back : goal.returns-clause-comes_back
returns-clause-comes_back c = λ are. ap record_of (sym (c.loop-line.invariant ∙ ap (λ ls. c.loop-line.text.items ++ record_text ls) (drop_all c.loop-line.line-index c.args.lines.now (omega (arith, c.loop-line-test.false))) ∙ append-nil c.loop-line.text.items)) ∙ reads_again c.args.lines.now are

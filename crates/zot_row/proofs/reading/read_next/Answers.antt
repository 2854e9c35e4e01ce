use Rattle.std.proofs.Common.{sym, ◌∙◌}
use Rattle.std.proofs.lemmas.List.{nil_from_length}
use Rattle.zot_row.proofs.LearnLemmas.{reads_all}
use Rattle.zot_row.proofs.reading.read_next.Goals as goal

pub returns-in-Some : goal.returns-in-Some
returns-in-Some c = c.ask_to_read.ensures c.args.left.items c.in-Some.ensures.items

pub returns-in-None : goal.returns-in-None
returns-in-None c = reads_all c.args.name.now c.args.repo.now c.args.purpose c.args.left.items c.go_on.result (nil_from_length c.args.left.items (sym c.args.left.ok.0 ∙ c.in-None.ensures.cases.0)) c.go_on.ensures

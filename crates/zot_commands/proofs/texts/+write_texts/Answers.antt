use Rattle.std.proofs.Common.{Bor, List, [], ℕ}
use Rattle.zot_commands.proofs.NoteLemmas.{first_part, later_part, on_err, whole_err}
use Rattle.zot_commands.proofs.texts.+write_texts.Goals as goal

-- stands for a text that isn't there
abbrev none : Bor (List ℕ)
none = record { ref_ptr = (0, 0); now = [] }

pub returns-in_err-write_all-in-len1-up-clause-err : goal.returns-in_err-write_all-in-len1-up-clause-err
returns-in_err-write_all-in-len1-up-clause-err g t c =
    whole_err c.from_residual.result _
    (first_part c.args.texts.now none (g.K.Sink.held c.args.sink.now) (g.K.Sink.held c.write_all.new.sink) c.in-len1-up.len_at_least c.in_err-write_all-in-len1-up.ensures.err)

pub returns-in_ok-write_all-in-len1-up-clause-err : goal.returns-in_ok-write_all-in-len1-up-clause-err
returns-in_ok-write_all-in-len1-up-clause-err g t c =
    on_err c.write_texts.result _ _
    (later_part c.args.texts.now none (g.K.Sink.held c.args.sink.now) (g.K.Sink.held c.write_all.new.sink) (g.K.Sink.held c.write_texts.new.sink) c.in-len1-up.len_at_least
    c.in_ok-write_all-in-len1-up.ensures.ok)
    c.write_texts.ensures.err

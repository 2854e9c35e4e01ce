use Rattle.std.proofs.Common.{List, ℕ, ap, ◌∙◌}
use Rattle.zot_row.proofs.LearnLemmas.{learn_after, learn_want}
use Rattle.zot_table.specs.Changes.{learned}
use Rattle.zot_row.proofs.reading.learn_bytes.Goals as goal

pub returns-in-Ok : goal.returns-in-Ok
returns-in-Ok c = λ moment.
    learn_after moment c.args.name.now c.args.repo.now c.args.digest c.args.left c.args.purpose c.args.bytes.now c.learn.new.self c.read_next.result
    (c.in-Ok.ensures.ok ∙ ap (λ (bytes : List ℕ). learned c.args.repo.now c.args.digest bytes) c.as_slice.ensures) c.read_next.ensures

pub returns-in-Err : goal.returns-in-Err
returns-in-Err c = λ moment. learn_want moment c.args.name.now c.args.repo.now c.args.digest c.args.left c.args.purpose c.args.bytes.now c.learn.new.self c.no_memory.result c.in-Err.ensures.err c.no_memory.ensures

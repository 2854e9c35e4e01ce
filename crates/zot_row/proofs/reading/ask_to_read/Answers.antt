use Rattle.std.proofs.Common.{ℕ, ◌+◌, List, length, sym, subst}
use Rattle.zot_contents.specs.declared.pool_call.PoolCall.TheVariants as pool
use Rattle.zot_row.proofs.LearnLemmas.{reads_asks}
use Rattle.zot_row.specs.Doing.{HasUnread}
use Rattle.zot_row.specs.Going.{GoesOnReading}
use Rattle.zot_row.specs.declared.stage.Stage.TheVariants as stages
use Rattle.zot_row.specs.declared.turn.Turn.TheVariants as turns
use Rattle.zot_row.proofs.reading.ask_to_read.Goals as goal

pub returns-in-Ok : goal.returns-in-Ok
returns-in-Ok c = λ all is.
    subst (λ (name : List ℕ). GoesOnReading c.args.purpose (HasUnread c.args.repo.now all) (length all + 2) c.args.name.now c.args.repo.now (turns.Asks (pool.Read name c.args.digest) (stages.Learn c.args.digest c.args.left c.args.purpose)))
    (sym c.in-Ok.ensures) (reads_asks c.args.name.now c.args.repo.now c.args.purpose c.args.digest c.args.left all is)

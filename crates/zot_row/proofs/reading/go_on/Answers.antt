use Rattle.std.proofs.Common.{sym, subst}
use Rattle.zot_row.specs.Going.{GoesOnReading}
use Rattle.zot_row.specs.declared.stage.Learning.{Learning}
use Rattle.zot_row.specs.declared.turn.Turn.TheVariants as turns
use Rattle.zot_table.specs.Standing.{AllRead}
use Rattle.zot_row.proofs.reading.go_on.Goals as goal

pub returns-in-List : goal.returns-in-List
returns-in-List c =
    subst (λ (purpose : Learning). GoesOnReading purpose (AllRead c.args.repo.now) 2 c.args.name.now c.args.repo.now (turns.Done c.list_read.result)) (sym c.in-List.is) (c.list_read.ensures c.args.name.now)

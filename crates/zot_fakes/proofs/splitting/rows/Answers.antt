use Rattle.zot_fakes.proofs.SplitLemmas.{parts_more}
use Rattle.zot_fakes.specs.Split.{row_part}
use Rattle.zot_fakes.proofs.splitting.rows.Goals as goal

pub loop-row-preserved : goal.loop-row-preserved
loop-row-preserved c =
    rw c.in_ok-push.ensures.items
    (parts_more (row_part c.args.key.now c.args.members) c.loop-row.row _ c.loop-row.rows.items c.in_ok-part_of.field-0 c.loop-row.invariant c.in_ok-part_of.ensures)

use Rattle.zot_repo.specs.RowGoing.{pending_of}
use Rattle.zot_repo.specs.Shards.{Drives}
use Rattle.zot_model.specs.declared.row.RowCall.TheVariants.{Ask}
use Rattle.zot_repo.proofs.driving.drive.Given as goal

-- what the call has led to so far
abbrev pub invariant-turns : goal.invariant-turns
invariant-turns g l = Drives l.fn.core l.fn.failed l.fn.pool.shards.items (Ask l.fn.request) l.fn.moment l.next l.core l.failed l.pool.shards.items

abbrev pub decreases-turns : goal.decreases-turns
decreases-turns g l = pending_of l.core.waiting

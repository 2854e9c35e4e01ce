use Rattle.zot_outside.specs.PathWalks.{HasRoom}
use Rattle.cases_outside.proofs.scripts.walk.Given as goal

-- the walk has room
abbrev pub invariant-loop : goal.invariant-loop
invariant-loop g l = HasRoom (g.S.Store.objects l.store) l.walk

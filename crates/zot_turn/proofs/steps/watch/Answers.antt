use Rattle.std.proofs.Common.{arith, ◌∙◌}
use Rattle.zot_turn.proofs.Looking.{looks_on}
use Rattle.zot_turn.proofs.steps.watch.Goals as goal

pub load-word-requires : goal.load-word-requires
load-word-requires g c =
    let i = c.loop.invariant in
    (i.0 ∙ c.requires.0, omega (arith, c.requires.1), looks_on g.O.Object.step c.args.board.now.key.value c.loop.seat.id c.args.board.now.table_id.slots c.loop.seat.me)

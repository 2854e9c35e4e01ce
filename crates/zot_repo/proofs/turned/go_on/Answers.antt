use Rattle.zot_layout.specs.Rows.{IsOfRow}
use Rattle.zot_repo.proofs.RowTurnLemmas.{gone_on}
use Rattle.zot_repo.proofs.turned.go_on.Goals as goal

pub returns : goal.returns
returns g c = λ key members row own.
    gone_on (IsOfRow key members row) c.args.was own c.args.answered c.args.repos.now c.resume-turn.new.self c.end_turn.new.repos (g.S.Store.objects c.args.part.now) (g.S.Store.faults c.args.part.now)
    c.resume-turn.result (g.S.Store.objects c.resume-turn.new.part) (g.S.Store.faults c.resume-turn.new.part) c.resume-turn.ensures.turn c.resume-turn.ensures.sets c.resume-turn.ensures.kept
    c.end_turn.ensures.same c.end_turn.ensures.gone c.end_turn.ensures.kept c.end_turn.result c.end_turn.new.waiting c.end_turn.ensures.next c.end_turn.ensures.waits

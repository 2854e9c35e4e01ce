use Rattle.std.proofs.Common.{refl}
use Rattle.zot_layout.specs.Rows.{IsOfRow}
use Rattle.zot_repo.proofs.RowTurnLemmas.{begun, lacking_row}
use Rattle.zot_repo.proofs.turned.begin.Goals as goal

pub returns-in_default : goal.returns-in_default
returns-in_default g c = λ key members row own.
    lacking_row (IsOfRow key members row) c.args.request.now c.args.name.now c.args.moment c.requires.named c.args.repos.now (g.S.Store.objects c.args.part.now) (g.S.Store.faults c.args.part.now)
    c.lacking.result c.args.waiting.now c.args.repos.now c.lacking.ensures c.requires.idle refl

pub returns-in-Ok-keep : goal.returns-in-Ok-keep
returns-in-Ok-keep g c = λ key members row own.
    begun (IsOfRow key members row) c.args.request.now c.args.name.now c.args.moment c.requires.named c.args.repos.now (g.S.Store.objects c.args.part.now) (g.S.Store.faults c.args.part.now)
    own c.keep.new.self c.start-turn.new.self c.end_turn.new.repos c.in-Ok.own c.in-Ok.ensures c.start-turn.result (g.S.Store.objects c.start-turn.new.part) (g.S.Store.faults c.start-turn.new.part)
    c.keep.ensures.same c.start-turn.ensures.turn c.start-turn.ensures.sets c.start-turn.ensures.kept c.end_turn.ensures.same c.end_turn.ensures.gone c.end_turn.ensures.kept
    c.end_turn.result c.end_turn.new.waiting c.end_turn.ensures.next c.end_turn.ensures.waits

pub returns-in-Err : goal.returns-in-Err
returns-in-Err g c = λ key members row own.
    lacking_row (IsOfRow key members row) c.args.request.now c.args.name.now c.args.moment c.requires.named c.args.repos.now (g.S.Store.objects c.args.part.now) (g.S.Store.faults c.args.part.now)
    c.lacking-in-Err.result c.args.waiting.now c.keep.new.self c.lacking-in-Err.ensures c.requires.idle c.in-Err.ensures.err

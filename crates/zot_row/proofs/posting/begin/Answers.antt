use Rattle.std.proofs.Common.{None, sym, subst}
use Rattle.zot_model.specs.declared.call.Call.TheVariants as calls
use Rattle.zot_model.specs.declared.reply.Reply.{Reply}
use Rattle.zot_row.proofs.PostLemmas.{full_quiet, open_starts}
use Rattle.zot_row.proofs.QuietLemmas.{quiet_never}
use Rattle.zot_row.specs.Going.{Quietly}
use Rattle.zot_row.specs.declared.turn.Turn.TheVariants as turns
use Rattle.zot_row.proofs.posting.begin.Goals as goal

pub returns-then-is_full : goal.returns-then-is_full
returns-then-is_full g c = λ mount body never.
    let name = c.args.name.now in
    let repo = c.args.repo.now in
    let call = calls.Post mount None body in
    quiet_never call c.args.moment name repo (turns.Done c.too_many_requests.result) repo (g.S.Store.objects c.args.part.now) (g.S.Store.faults c.args.part.now) never
    (subst (λ (r : Reply). Quietly call c.args.moment name repo (turns.Done r) repo) (sym c.too_many_requests.ensures) (full_quiet c.args.moment name repo mount body (sym c.if-is_full.ensures)))

pub returns-in-Ok : goal.returns-in-Ok
returns-in-Ok g c = λ mount body never.
    let objects = g.S.Store.objects in
    let faults = g.S.Store.faults in
    open_starts c.args.moment c.args.name.now c.args.repo.now c.know.new.repo c.begin_known.new.repo mount body c.begin_known.result (objects c.args.part.now) (objects c.know.new.part) (faults c.args.part.now) (faults c.know.new.part) never
    c.in-Ok.ensures.cause.kept c.in-Ok.ensures.ok c.in-Ok.ensures.stands c.in-Ok.ensures.beside c.begin_known.ensures

use Rattle.std.proofs.Common.{ℕ, List, Option, Some, refl, ap, sym, subst, ◌∙◌}
use Rattle.zot_model.specs.declared.call.Call.TheVariants as calls
use Rattle.zot_model.specs.declared.call.Call.{Call}
use Rattle.zot_row.proofs.QuietLemmas.{quiet_never}
use Rattle.zot_row.proofs.UploadLemmas.{finish_made, never_finish, refused_quiet, unfinished_quiet}
use Rattle.zot_row.specs.Going.{Starts}
use Rattle.zot_row.specs.declared.turn.Turn.TheVariants as turns
use Rattle.zot_row.proofs.uploads.finish.Goals as goal

pub returns-in_default : goal.returns-in_default
returns-in_default g c = λ moment.
    let name = c.args.name.now in
    let repo = c.args.repo.now in
    let call = calls.Finish c.args.id c.args.range c.args.digest.now c.args.body.now in
    quiet_never call moment name repo (turns.Done c.upload_unknown.result) repo (g.S.Store.objects c.args.part.now) (g.S.Store.faults c.args.part.now) (never_finish c.args.id c.args.range c.args.digest.now c.args.body.now)
    (unfinished_quiet moment name repo c.args.id c.args.range c.args.digest.now c.args.body.now c.upload_unknown.result c.in_default.is c.upload_unknown.ensures)

pub returns-in-Ok : goal.returns-in-Ok
returns-in-Ok g c = λ moment.
    let objects = g.S.Store.objects in
    let faults = g.S.Store.faults in
    let name = c.args.name.now in
    let repo = c.args.repo.now in
    let id = c.in-Some.id in
    let digest = c.args.digest.now in
    let piece = c.as_slice.result.now in
    let call = λ (i : Option ℕ) (body : List ℕ). calls.Finish i c.args.range digest body in
    let same = ap (λ (i : Option ℕ). call i piece) (sym c.in-Some.is) ∙ ap (call c.args.id) c.as_slice.ensures in
    subst (λ (q : Call). Starts q moment name repo (objects c.args.part.now) (faults c.args.part.now) c.store.result c.store.new.repo (objects c.store.new.part) (faults c.store.new.part)) same
    (c.store.ensures (call (Some id) piece) moment (λ e. cc e) (never_finish (Some id) c.args.range digest piece) (record { range = c.args.range; body = piece; is = refl })
    (λ holds agrees. finish_made moment repo holds id c.args.range digest piece c.in-Ok.bytes.items c.new.result c.in-Ok.ensures.right c.in-Ok.ensures.bytes c.new.ensures))

pub returns-in-Err : goal.returns-in-Err
returns-in-Err g c = λ moment.
    let objects = g.S.Store.objects c.args.part.now in
    let faults = g.S.Store.faults c.args.part.now in
    let name = c.args.name.now in
    let repo = c.args.repo.now in
    let id = c.in-Some.id in
    let digest = c.args.digest.now in
    let piece = c.as_slice.result.now in
    let call = λ (i : Option ℕ) (body : List ℕ). calls.Finish i c.args.range digest body in
    let same = ap (λ (i : Option ℕ). call i piece) (sym c.in-Some.is) ∙ ap (call c.args.id) c.as_slice.ensures in
    subst (λ (q : Call). Starts q moment name repo objects faults (turns.Done c.refused_upload.result) repo objects faults) same
    (quiet_never (call (Some id) piece) moment name repo (turns.Done c.refused_upload.result) repo objects faults (never_finish (Some id) c.args.range digest piece)
    (refused_quiet moment name repo id c.args.range digest piece c.in-Err.error c.refused_upload.result c.in-Err.ensures.refused c.refused_upload.ensures))

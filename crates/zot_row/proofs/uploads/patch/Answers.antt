use Rattle.std.proofs.Common.{ℕ, List, Option, ap, sym, subst, ◌∙◌}
use Rattle.zot_model.specs.declared.call.Call.TheVariants as calls
use Rattle.zot_model.specs.declared.call.Call.{Call}
use Rattle.zot_model.specs.declared.reply.Reply.TheVariants.{Session}
use Rattle.zot_row.proofs.UploadLemmas.{patched_quiet, unnamed_quiet, unpatched_quiet}
use Rattle.zot_row.specs.Going.{Quietly}
use Rattle.zot_row.specs.declared.turn.Turn.TheVariants as turns
use Rattle.zot_row.proofs.uploads.patch.Goals as goal

pub returns-in_default : goal.returns-in_default
returns-in_default c = λ moment name. unnamed_quiet moment name c.args.repo.now c.args.id c.args.range c.args.body.now c.upload_unknown.result c.in_default.is c.upload_unknown.ensures

pub returns-in-Ok : goal.returns-in-Ok
returns-in-Ok c = λ moment name.
    let piece = c.as_slice.result.now in
    let same = ap (λ (id : Option ℕ). calls.Patch id c.args.range piece) (sym c.in-Some.is) ∙ ap (λ (body : List ℕ). calls.Patch c.args.id c.args.range body) c.as_slice.ensures in
    let reply = Session c.in-Some.id c.in-Ok.length 202 in
    subst (λ (q : Call). Quietly q moment name c.args.repo.now (turns.Done reply) c.append.new.self) same
    (patched_quiet moment name c.args.repo.now c.append.new.self c.in-Some.id c.args.range piece reply c.in-Ok.ensures.taken (ap (λ n. Session c.in-Some.id n 202) c.in-Ok.ensures.length) c.in-Ok.ensures.ok)

pub returns-in-Err : goal.returns-in-Err
returns-in-Err c = λ moment name.
    let piece = c.as_slice.result.now in
    let same = ap (λ (id : Option ℕ). calls.Patch id c.args.range piece) (sym c.in-Some.is) ∙ ap (λ (body : List ℕ). calls.Patch c.args.id c.args.range body) c.as_slice.ensures in
    subst (λ (q : Call). Quietly q moment name c.args.repo.now (turns.Done c.refused_upload.result) c.append.new.self) same
    (unpatched_quiet moment name c.args.repo.now c.append.new.self c.in-Some.id c.args.range piece c.in-Err.error c.refused_upload.result c.in-Err.ensures.refused c.refused_upload.ensures c.in-Err.ensures.stays)

use Rattle.std.proofs.Common.{Some, refl, sym, subst}
use Rattle.zot_model.specs.declared.call.Call.TheVariants as calls
use Rattle.zot_model.specs.declared.reply.Reply.{Reply}
use Rattle.zot_row.proofs.PostLemmas.{post_copied, unsound_quiet}
use Rattle.zot_row.proofs.QuietLemmas.{quiet_never}
use Rattle.zot_row.specs.Going.{Quietly}
use Rattle.zot_row.specs.declared.turn.Turn.TheVariants as turns
use Rattle.zot_table.specs.Standing.{repo_of}
use Rattle.zot_row.proofs.posting.post_blob.Goals as goal

pub returns-then-not-is_sound : goal.returns-then-not-is_sound
returns-then-not-is_sound g c = λ mount moment never.
    let name = c.args.name.now in
    let repo = c.args.repo.now in
    let call = calls.Post mount (Some c.args.digest.now) c.args.body.now in
    quiet_never call moment name repo (turns.Done c.digest_invalid.result) repo (g.S.Store.objects c.args.part.now) (g.S.Store.faults c.args.part.now) never
    (subst (λ (r : Reply). Quietly call moment name repo (turns.Done r) repo) (sym c.digest_invalid.ensures)
    (unsound_quiet moment name repo mount c.args.digest.now c.args.body.now (c.if-not-is_sound.ensures.other refl)))

pub returns-in-Ok : goal.returns-in-Ok
returns-in-Ok g c = λ mount moment never.
    let call = calls.Post mount (Some c.args.digest.now) c.args.body.now in
    c.store.ensures call moment (λ e. cc e) never (record { mount = mount; body = c.args.body.now; is = refl })
    (λ holds agrees. post_copied moment (repo_of c.args.repo.now holds) mount c.args.digest.now c.args.body.now c.in-Ok.copy (c.if-not-is_sound.ensures.sound refl) c.in-Ok.ensures)

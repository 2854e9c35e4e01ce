use Rattle.std.proofs.Common.{ℕ, List, Ok, Err, refl, sym, subst}
use Rattle.zot_manifests.specs.Check.{Answers, check_of}
use Rattle.zot_model.specs.declared.call.Call.TheVariants as calls
use Rattle.zot_row.proofs.ManifestLemmas.{put_ends, put_never, put_quiet}
use Rattle.zot_row.proofs.QuietLemmas.{quiet_never}
use Rattle.zot_row.specs.Doing.{EndsWith}
use Rattle.zot_row.specs.declared.stage.Attaching.TheVariants as attaching
use Rattle.zot_row.specs.declared.turn.Turn.TheVariants as turns
use Rattle.zot_table.specs.Standing.{repo_of}
use Rattle.zot_table.specs.Tables.{size_at}
use Rattle.zot_row.proofs.manifests.put_manifest.Goals as goal

pub returns-in-Err : goal.returns-in-Err
returns-in-Err g c = λ moment.
    let call = calls.PutManifest c.args.reference.now c.args.media c.args.body.now in
    let why = subst (λ (b : List ℕ). Answers (Err c.in-Err.error) (check_of (size_at c.args.repo.now.slots) c.args.reference.now c.args.media b)) c.as_slice.ensures c.in-Err.ensures in
    quiet_never call moment c.args.name.now c.args.repo.now (turns.Done c.refused_manifest.result) c.args.repo.now (g.S.Store.objects c.args.part.now) (g.S.Store.faults c.args.part.now)
    (put_never c.args.reference.now c.args.media c.args.body.now)
    (put_quiet moment c.args.name.now c.args.repo.now c.args.reference.now c.args.media c.args.body.now c.in-Err.error c.refused_manifest.result why c.refused_manifest.ensures)

pub returns-in-Ok-copy : goal.returns-in-Ok-copy
returns-in-Ok-copy g c = λ moment.
    let call = calls.PutManifest c.args.reference.now c.args.media c.args.body.now in
    let right = subst (λ (b : List ℕ). Answers (Ok c.in-Ok.checked) (check_of (size_at c.args.repo.now.slots) c.args.reference.now c.args.media b)) c.as_slice.ensures c.in-Ok.ensures in
    c.store.ensures call moment (λ same. cc same) (put_never c.args.reference.now c.args.media c.args.body.now)
    (record { reference = c.args.reference.now; media = c.args.media; body = c.args.body.now; is = refl })
    (λ holds agrees. subst (λ (b : List ℕ). EndsWith (attaching.Manifest c.in-Ok.checked) c.in-Ok.checked.digest b (repo_of c.args.repo.now holds) call moment) (sym c.in-Ok-copy.ensures)
    (put_ends moment c.args.name.now c.args.repo.now c.args.reference.now holds c.args.media c.args.body.now c.in-Ok.checked agrees right))

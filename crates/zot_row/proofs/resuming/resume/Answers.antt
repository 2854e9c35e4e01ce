use Rattle.zot_row.proofs.ResumeLemmas.{resumes_at}
use Rattle.zot_row.specs.declared.stage.Stage.TheVariants as stages
use Rattle.zot_row.specs.declared.turn.Turn.TheVariants as turns
use Rattle.zot_row.proofs.resuming.resume.Goals as goal

pub returns-in-Blob : goal.returns-in-Blob
returns-in-Blob g c =
    let objects = g.S.Store.objects c.args.part.now in
    let faults = g.S.Store.faults c.args.part.now in
    resumes_at c.args.stage (stages.Blob c.in-Blob.digest) c.args.answered c.args.moment c.args.name.now c.args.repo.now objects faults (turns.Done c.give_blob.result) c.args.repo.now objects faults c.in-Blob.is
    (c.give_blob.ensures c.args.moment c.args.name.now c.args.repo.now objects faults)

pub returns-in-Manifest : goal.returns-in-Manifest
returns-in-Manifest g c =
    let objects = g.S.Store.objects c.args.part.now in
    let faults = g.S.Store.faults c.args.part.now in
    resumes_at c.args.stage (stages.Manifest c.in-Manifest.digest c.in-Manifest.media c.in-Manifest.reference) c.args.answered c.args.moment c.args.name.now c.args.repo.now objects faults (turns.Done c.give_manifest.result) c.give_manifest.new.repo objects faults c.in-Manifest.is
    (c.give_manifest.ensures c.args.name.now objects faults)

pub returns-in-Detach : goal.returns-in-Detach
returns-in-Detach g c =
    let objects = g.S.Store.objects c.args.part.now in
    let faults = g.S.Store.faults c.args.part.now in
    resumes_at c.args.stage (stages.Detach c.in-Detach.digest) c.args.answered c.args.moment c.args.name.now c.args.repo.now objects faults (turns.Done c.drop_blob.result) c.drop_blob.new.repo objects faults c.in-Detach.is
    (c.drop_blob.ensures c.args.moment c.args.name.now objects faults)

pub returns-in-Learn : goal.returns-in-Learn
returns-in-Learn g c =
    let objects = g.S.Store.objects c.args.part.now in
    let faults = g.S.Store.faults c.args.part.now in
    resumes_at c.args.stage (stages.Learn c.in-Learn.digest c.in-Learn.left c.in-Learn.purpose) c.args.answered c.args.moment c.args.name.now c.args.repo.now objects faults c.learn.result c.learn.new.repo objects faults c.in-Learn.is
    (c.learn.ensures c.args.moment objects faults)

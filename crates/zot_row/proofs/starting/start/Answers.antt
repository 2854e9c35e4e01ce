use Rattle.zot_model.specs.declared.call.Call.TheVariants as calls
use Rattle.zot_model.specs.declared.reply.Reply.TheVariants as answers
use Rattle.zot_row.proofs.StartLemmas.{base_quiet, quiet_as, starts_as}
use Rattle.zot_row.specs.declared.turn.Turn.TheVariants as turns
use Rattle.zot_row.proofs.starting.start.Goals as goal

pub returns-in-GetBlob : goal.returns-in-GetBlob
returns-in-GetBlob g c =
    quiet_as c.args.call.now (calls.GetBlob c.in-GetBlob.digest) c.args.moment c.args.name.now c.args.repo.now c.get_blob.result c.args.repo.now (g.S.Store.objects c.args.part.now) (g.S.Store.faults c.args.part.now) c.in-GetBlob.is (λ wanted from asks. cc asks.is)
    (c.get_blob.ensures c.args.moment)

pub returns-in-HeadBlob : goal.returns-in-HeadBlob
returns-in-HeadBlob g c =
    quiet_as c.args.call.now (calls.HeadBlob c.in-HeadBlob.digest) c.args.moment c.args.name.now c.args.repo.now (turns.Done c.head_blob.result) c.args.repo.now (g.S.Store.objects c.args.part.now) (g.S.Store.faults c.args.part.now) c.in-HeadBlob.is (λ wanted from asks. cc asks.is)
    (c.head_blob.ensures c.args.moment c.args.name.now)

pub returns-in-DeleteBlob : goal.returns-in-DeleteBlob
returns-in-DeleteBlob g c =
    quiet_as c.args.call.now (calls.DeleteBlob c.in-DeleteBlob.digest) c.args.moment c.args.name.now c.args.repo.now c.delete_blob.result c.delete_blob.new.repo (g.S.Store.objects c.args.part.now) (g.S.Store.faults c.args.part.now) c.in-DeleteBlob.is (λ wanted from asks. cc asks.is)
    (c.delete_blob.ensures c.args.moment)

pub returns-in-UploadState : goal.returns-in-UploadState
returns-in-UploadState g c =
    quiet_as c.args.call.now (calls.UploadState c.in-UploadState.id) c.args.moment c.args.name.now c.args.repo.now (turns.Done c.upload_state.result) c.args.repo.now (g.S.Store.objects c.args.part.now) (g.S.Store.faults c.args.part.now) c.in-UploadState.is (λ wanted from asks. cc asks.is)
    (c.upload_state.ensures c.args.moment c.args.name.now)

pub returns-in-Patch : goal.returns-in-Patch
returns-in-Patch g c =
    quiet_as c.args.call.now (calls.Patch c.in-Patch.id c.in-Patch.range c.in-Patch.body) c.args.moment c.args.name.now c.args.repo.now (turns.Done c.patch.result) c.patch.new.repo (g.S.Store.objects c.args.part.now) (g.S.Store.faults c.args.part.now) c.in-Patch.is (λ wanted from asks. cc asks.is)
    (c.patch.ensures c.args.moment c.args.name.now)

pub returns-in-Finish : goal.returns-in-Finish
returns-in-Finish g c =
    let objects = g.S.Store.objects in
    let faults = g.S.Store.faults in
    starts_as c.args.call.now (calls.Finish c.in-Finish.id c.in-Finish.range c.in-Finish.digest c.in-Finish.body) c.args.moment c.args.name.now c.args.repo.now (objects c.args.part.now) (faults c.args.part.now) c.finish.result c.finish.new.repo (objects c.finish.new.part) (faults c.finish.new.part) c.in-Finish.is
    (c.finish.ensures c.args.moment)

pub returns-in-PutManifest : goal.returns-in-PutManifest
returns-in-PutManifest g c =
    let objects = g.S.Store.objects in
    let faults = g.S.Store.faults in
    starts_as c.args.call.now (calls.PutManifest c.in-PutManifest.reference c.in-PutManifest.media c.in-PutManifest.body) c.args.moment c.args.name.now c.args.repo.now (objects c.args.part.now) (faults c.args.part.now) c.put_manifest.result c.put_manifest.new.repo (objects c.put_manifest.new.part) (faults c.put_manifest.new.part) c.in-PutManifest.is
    (c.put_manifest.ensures c.args.moment)

pub returns-in-GetManifest : goal.returns-in-GetManifest
returns-in-GetManifest g c =
    quiet_as c.args.call.now (calls.GetManifest c.in-GetManifest.reference) c.args.moment c.args.name.now c.args.repo.now c.get_manifest.result c.args.repo.now (g.S.Store.objects c.args.part.now) (g.S.Store.faults c.args.part.now) c.in-GetManifest.is (λ wanted from asks. cc asks.is)
    (c.get_manifest.ensures c.args.moment)

pub returns-in-HeadManifest : goal.returns-in-HeadManifest
returns-in-HeadManifest g c =
    quiet_as c.args.call.now (calls.HeadManifest c.in-HeadManifest.reference) c.args.moment c.args.name.now c.args.repo.now (turns.Done c.head_manifest.result) c.args.repo.now (g.S.Store.objects c.args.part.now) (g.S.Store.faults c.args.part.now) c.in-HeadManifest.is (λ wanted from asks. cc asks.is)
    (c.head_manifest.ensures c.args.moment c.args.name.now)

pub returns-in-DeleteManifest : goal.returns-in-DeleteManifest
returns-in-DeleteManifest g c =
    let objects = g.S.Store.objects in
    let faults = g.S.Store.faults in
    starts_as c.args.call.now (calls.DeleteManifest c.in-DeleteManifest.reference) c.args.moment c.args.name.now c.args.repo.now (objects c.args.part.now) (faults c.args.part.now) (turns.Done c.delete_manifest.result) c.delete_manifest.new.repo (objects c.delete_manifest.new.part) (faults c.delete_manifest.new.part) c.in-DeleteManifest.is
    (c.delete_manifest.ensures c.args.moment)

pub returns-in-Tags : goal.returns-in-Tags
returns-in-Tags g c =
    quiet_as c.args.call.now (calls.Tags c.in-Tags.n c.in-Tags.last) c.args.moment c.args.name.now c.args.repo.now (turns.Done c.list_tags.result) c.args.repo.now (g.S.Store.objects c.args.part.now) (g.S.Store.faults c.args.part.now) c.in-Tags.is (λ wanted from asks. cc asks.is)
    (c.list_tags.ensures c.args.moment c.args.name.now)

pub returns-in-Referrers : goal.returns-in-Referrers
returns-in-Referrers g c =
    quiet_as c.args.call.now (calls.Referrers c.in-Referrers.digest c.in-Referrers.filter) c.args.moment c.args.name.now c.args.repo.now c.list_referrers.result c.list_referrers.new.repo (g.S.Store.objects c.args.part.now) (g.S.Store.faults c.args.part.now) c.in-Referrers.is (λ wanted from asks. cc asks.is)
    (c.list_referrers.ensures c.args.moment)

pub returns-in-Base : goal.returns-in-Base
returns-in-Base g c =
    quiet_as c.args.call.now calls.Base c.args.moment c.args.name.now c.args.repo.now (turns.Done answers.Base) c.args.repo.now (g.S.Store.objects c.args.part.now) (g.S.Store.faults c.args.part.now) c.in-Base.is (λ wanted from asks. cc asks.is)
    (base_quiet c.args.moment c.args.name.now c.args.repo.now)

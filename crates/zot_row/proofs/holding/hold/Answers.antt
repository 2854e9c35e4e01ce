use Rattle.std.proofs.Common.{refl, sym, subst, ◌∙◌, ap}
use Rattle.zot_contents.specs.declared.pool_reply.PoolReply.TheVariants as replies
use Rattle.zot_model.specs.Uploads.{without}
use Rattle.zot_model.specs.declared.reply.Reply.TheVariants.{BlobMade}
use Rattle.zot_row.proofs.AttachLemmas.{attached_blob, attached_upload}
use Rattle.zot_row.specs.Going.{Resumes}
use Rattle.zot_row.specs.declared.stage.Attaching.{Attaching}
use Rattle.zot_row.specs.declared.stage.Attaching.TheVariants as attaching
use Rattle.zot_row.specs.declared.stage.Stage.TheVariants as stages
use Rattle.zot_row.specs.declared.turn.Turn.TheVariants as turns
use Rattle.zot_table.specs.Changes.{with_uploads}
use Rattle.zot_table.specs.Tables.{RepoTable}
use Rattle.zot_row.proofs.holding.hold.Goals as goal

pub returns-in-Blob : goal.returns-in-Blob
returns-in-Blob g c =
    let objects = g.S.Store.objects c.args.part.now in
    let faults = g.S.Store.faults c.args.part.now in
    let ready = c.if-not-is_ready.ensures.ready refl in
    subst (λ (p : Attaching). Resumes (stages.Attach c.args.digest c.args.size p) replies.Done c.args.moment c.args.name.now c.args.repo.now objects faults (turns.Done (BlobMade c.args.digest)) c.fill.new.self objects faults) (sym c.in-Blob.is)
    (subst (λ (t : RepoTable). Resumes (stages.Attach c.args.digest c.args.size attaching.Blob) replies.Done c.args.moment c.args.name.now c.args.repo.now objects faults (turns.Done (BlobMade c.args.digest)) t objects faults) (sym c.fill.ensures)
    (attached_blob c.args.moment c.args.name.now c.args.repo.now c.args.digest c.args.size ready.0 objects faults))

pub returns-in-Upload : goal.returns-in-Upload
returns-in-Upload g c =
    let objects = g.S.Store.objects c.args.part.now in
    let faults = g.S.Store.faults c.args.part.now in
    let ready = c.if-not-is_ready.ensures.ready refl in
    let id = c.in-Upload.id in
    subst (λ (p : Attaching). Resumes (stages.Attach c.args.digest c.args.size p) replies.Done c.args.moment c.args.name.now c.args.repo.now objects faults (turns.Done (BlobMade c.args.digest)) c.end.new.self objects faults) (sym c.in-Upload.is)
    (subst (λ (t : RepoTable). Resumes (stages.Attach c.args.digest c.args.size (attaching.Upload id)) replies.Done c.args.moment c.args.name.now c.args.repo.now objects faults (turns.Done (BlobMade c.args.digest)) t objects faults)
    (sym (c.end.ensures ∙ ap (λ (t : RepoTable). with_uploads t (without t.sessions id)) c.fill-in-Upload.ensures))
    (attached_upload c.args.moment c.args.name.now c.args.repo.now c.args.digest c.args.size id ready.0 objects faults))

pub returns-in-Manifest : goal.returns-in-Manifest
returns-in-Manifest g c =
    let objects = g.S.Store.objects in
    let faults = g.S.Store.faults in
    let ready = c.if-not-is_ready.ensures.ready refl in
    subst (λ (p : Attaching). Resumes (stages.Attach c.args.digest c.args.size p) replies.Done c.args.moment c.args.name.now c.args.repo.now (objects c.args.part.now) (faults c.args.part.now) (turns.Done c.keep.result) c.keep.new.repo (objects c.keep.new.part) (faults c.keep.new.part))
    (sym c.in-Manifest.is) (c.keep.ensures c.args.repo.now c.args.digest c.args.size c.fill-in-Manifest.ensures ready.0)

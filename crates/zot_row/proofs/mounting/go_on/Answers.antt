use Rattle.std.proofs.Common.{sym, subst}
use Rattle.zot_contents.specs.declared.pool_reply.PoolReply.TheVariants as replies
use Rattle.zot_model.specs.Refusals.{refusal}
use Rattle.zot_model.specs.declared.code.Code.TheVariants.{DigestInvalid}
use Rattle.zot_model.specs.declared.reply.Reply.{Reply}
use Rattle.zot_row.proofs.MountLemmas.{mount_blob, mount_unsound}
use Rattle.zot_row.specs.Going.{AsksToAttach, KeepsOthers, KeepsStanding, Resumes, TakesBack}
use Rattle.zot_row.specs.declared.stage.Attaching.TheVariants as attaching
use Rattle.zot_row.specs.declared.stage.Rest.{Rest}
use Rattle.zot_row.specs.declared.stage.Stage.TheVariants as stages
use Rattle.zot_row.specs.declared.turn.Turn.TheVariants as turns
use Rattle.zot_table.specs.Tables.{RepoTable}
use Rattle.zot_row.proofs.mounting.go_on.Goals as goal

pub returns-in-Upload : goal.returns-in-Upload
returns-in-Upload g c = λ table digest is.
    let objects = g.S.Store.objects in
    let faults = g.S.Store.faults in
    subst (λ (r : Rest). Resumes (stages.Mount digest c.args.made r) replies.Nothing c.args.moment c.args.name.now table (objects c.args.part.now) (faults c.args.part.now) (turns.Done c.begin_after.result) c.begin_after.new.repo (objects c.begin_after.new.part) (faults c.begin_after.new.part))
    (sym c.in-Upload.is) (c.begin_after.ensures table digest is)

pub returns-in-Blob : goal.returns-in-Blob
returns-in-Blob g c = λ table digest is.
    let objects = g.S.Store.objects c.args.part.now in
    let faults = g.S.Store.faults c.args.part.now in
    let name = c.args.name.now in
    subst (λ (r : Rest). Resumes (stages.Mount digest c.args.made r) replies.Nothing c.args.moment name table objects faults c.attach.result c.attach.new.repo objects faults) (sym c.in-Blob.is)
    (mount_blob c.args.moment name table digest c.args.made c.in-Blob.digest c.in-Blob.body c.attach.new.repo c.attach.result
    (subst (λ (t : RepoTable). AsksToAttach c.attach.result name c.in-Blob.digest c.in-Blob.body attaching.Blob t c.attach.new.repo) is c.attach.ensures) objects faults)

pub returns-in-Unsound : goal.returns-in-Unsound
returns-in-Unsound g c = λ table digest is.
    let objects = g.S.Store.objects in
    let faults = g.S.Store.faults in
    let name = c.args.name.now in
    let before = faults c.args.part.now in
    let after = faults c.take_back.new.part in
    subst (λ (r : Rest). Resumes (stages.Mount digest c.args.made r) replies.Nothing c.args.moment name table (objects c.args.part.now) before (turns.Done c.take_back.result) c.take_back.new.repo (objects c.take_back.new.part) after) (sym c.in-Unsound.is)
    (mount_unsound c.args.moment name table digest c.args.made (objects c.args.part.now) (objects c.take_back.new.part) before after c.take_back.result c.take_back.new.repo
    (subst (λ (t : RepoTable). TakesBack c.args.made (refusal DigestInvalid) t before c.take_back.result c.take_back.new.repo after) is
    (subst (λ (r : Reply). TakesBack c.args.made r c.args.repo.now before c.take_back.result c.take_back.new.repo after) c.digest_invalid.ensures c.take_back.ensures.takes))
    (subst (λ (t : RepoTable). KeepsStanding (objects c.args.part.now) name t (objects c.take_back.new.part) c.take_back.new.repo) is c.take_back.ensures.stands)
    (subst (λ (t : RepoTable). KeepsOthers (objects c.args.part.now) name t (objects c.take_back.new.part)) is c.take_back.ensures.beside))

use Rattle.std.proofs.Common.{sym, subst}
use Rattle.zot_contents.specs.declared.pool_reply.PoolReply.{PoolReply}
use Rattle.zot_contents.specs.declared.pool_reply.PoolReply.TheVariants as replies
use Rattle.zot_model.specs.declared.reply.Reply.{Reply}
use Rattle.zot_model.specs.declared.reply.Reply.TheVariants.{Manifest}
use Rattle.zot_row.proofs.ManifestLemmas.{manifest_given, manifest_ungiven}
use Rattle.zot_row.specs.Going.{ResumesQuietly}
use Rattle.zot_row.specs.declared.stage.Stage.TheVariants as stages
use Rattle.zot_row.specs.declared.turn.Turn.TheVariants as turns
use Rattle.zot_table.specs.Tables.{RepoTable}
use Rattle.zot_row.proofs.manifests.give_manifest.Goals as goal

pub returns-in-Content : goal.returns-in-Content
returns-in-Content c = λ name.
    let stage = stages.Manifest c.args.digest c.args.media c.args.reference in
    let reply = Manifest c.args.digest c.args.media c.in-Content.bytes in
    subst (λ (answered : PoolReply). ResumesQuietly stage answered c.args.moment name c.args.repo.now (turns.Done reply) c.pull.new.self) (sym c.in-Content.is)
    (subst (λ (new : RepoTable). ResumesQuietly stage (replies.Content c.in-Content.bytes) c.args.moment name c.args.repo.now (turns.Done reply) new) (sym c.pull.ensures)
    (manifest_given c.args.moment name c.args.repo.now c.args.reference c.args.digest c.args.media c.in-Content.bytes))

pub returns : goal.returns
returns c = λ name.
    subst (λ (reply : Reply). ResumesQuietly (stages.Manifest c.args.digest c.args.media c.args.reference) c.args.answered c.args.moment name c.args.repo.now (turns.Done reply) c.args.repo.now) (sym c.ungiven.ensures)
    (manifest_ungiven c.args.moment name c.args.repo.now c.args.reference c.args.digest c.args.media c.args.answered)

use Rattle.std.proofs.Common.{refl, sym, subst}
use Rattle.zot_contents.specs.declared.pool_reply.PoolReply.TheVariants as replies
use Rattle.zot_model.specs.declared.reply.Reply.TheVariants.{BlobMade}
use Rattle.zot_row.proofs.MountLemmas.{mount_given}
use Rattle.zot_row.specs.Going.{ResumesQuietly}
use Rattle.zot_row.specs.declared.stage.Stage.TheVariants as stages
use Rattle.zot_row.specs.declared.turn.Turn.TheVariants as turns
use Rattle.zot_table.specs.Tables.{RepoTable}
use Rattle.zot_row.proofs.mounting.take.Goals as goal

pub returns : goal.returns
returns c = λ name made rest.
    let ready = c.if-not-is_ready.ensures.ready refl in
    subst (λ (t : RepoTable). ResumesQuietly (stages.Mount c.args.digest made rest) (replies.Size c.args.size) c.args.moment name c.args.repo.now (turns.Done (BlobMade c.args.digest)) t) (sym c.fill.ensures)
    (mount_given c.args.moment name c.args.repo.now c.args.digest made rest c.args.size ready.0)

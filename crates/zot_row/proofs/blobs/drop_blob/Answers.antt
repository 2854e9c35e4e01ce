use Rattle.std.proofs.Common.{sym, subst}
use Rattle.zot_contents.specs.declared.pool_reply.PoolReply.{PoolReply}
use Rattle.zot_contents.specs.declared.pool_reply.PoolReply.TheVariants as replies
use Rattle.zot_model.specs.declared.reply.Reply.TheVariants.{Deleted}
use Rattle.zot_row.proofs.LearnLemmas.{detach_given}
use Rattle.zot_row.specs.Going.{ResumesQuietly}
use Rattle.zot_row.specs.declared.stage.Stage.TheVariants as stages
use Rattle.zot_row.specs.declared.turn.Turn.TheVariants as turns
use Rattle.zot_table.specs.Tables.{RepoTable}
use Rattle.zot_row.proofs.blobs.drop_blob.Goals as goal

pub returns-in-Removed : goal.returns-in-Removed
returns-in-Removed c = λ moment name.
    subst (λ (answered : PoolReply). ResumesQuietly (stages.Detach c.args.digest) answered moment name c.args.repo.now (turns.Done Deleted) c.clear.new.self) (sym c.in-Removed.is)
    (subst (λ (new : RepoTable). ResumesQuietly (stages.Detach c.args.digest) (replies.Removed c.in-Removed.field-0) moment name c.args.repo.now (turns.Done Deleted) new) (sym c.clear.ensures)
    (detach_given moment name c.args.repo.now c.args.digest c.in-Removed.field-0))

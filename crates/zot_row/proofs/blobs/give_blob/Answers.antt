use Rattle.std.proofs.Common.{sym, subst}
use Rattle.zot_contents.specs.declared.pool_reply.PoolReply.{PoolReply}
use Rattle.zot_model.specs.declared.reply.Reply.TheVariants.{Blob}
use Rattle.zot_row.proofs.BlobLemmas.{blob_given}
use Rattle.zot_row.specs.Going.{ResumesQuietly}
use Rattle.zot_row.specs.declared.stage.Stage.TheVariants as stages
use Rattle.zot_row.specs.declared.turn.Turn.TheVariants as turns
use Rattle.zot_row.proofs.blobs.give_blob.Goals as goal

pub returns-in-Content : goal.returns-in-Content
returns-in-Content c = λ moment name repo.
    subst (λ (answered : PoolReply). ResumesQuietly (stages.Blob c.args.digest) answered moment name repo (turns.Done (Blob c.args.digest c.in-Content.bytes)) repo) (sym c.in-Content.is)
    (blob_given moment name repo c.args.digest c.in-Content.bytes)

use Rattle.std.proofs.Common.{sym, subst}
use Rattle.zot_model.specs.declared.call.Call.TheVariants as calls
use Rattle.zot_model.specs.declared.reply.Reply.{Reply}
use Rattle.zot_row.proofs.BlobLemmas.{head_known, head_unknown}
use Rattle.zot_row.specs.Going.{Quietly}
use Rattle.zot_row.specs.declared.turn.Turn.TheVariants as turns
use Rattle.zot_row.proofs.blobs.head_blob.Goals as goal

pub returns-in-Some : goal.returns-in-Some
returns-in-Some c = λ moment name. head_known moment name c.args.repo.now c.args.digest.now c.in-Some.size (sym c.in-Some.ensures)

pub returns-in-None : goal.returns-in-None
returns-in-None c = λ moment name.
    subst (λ (reply : Reply). Quietly (calls.HeadBlob c.args.digest.now) moment name c.args.repo.now (turns.Done reply) c.args.repo.now) (sym c.blob_unknown.ensures)
    (head_unknown moment name c.args.repo.now c.args.digest.now (sym c.in-None.ensures))

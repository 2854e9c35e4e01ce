use Rattle.std.proofs.Common.{sym, subst, ◌∙◌}
use Rattle.zot_model.specs.declared.call.Call.TheVariants as calls
use Rattle.zot_model.specs.declared.reply.Reply.{Reply}
use Rattle.zot_row.proofs.BlobLemmas.{get_unknown, none_sized}
use Rattle.zot_row.specs.Going.{Quietly}
use Rattle.zot_row.specs.declared.turn.Turn.TheVariants as turns
use Rattle.zot_row.proofs.blobs.get_blob.Goals as goal

pub returns-then-is_none : goal.returns-then-is_none
returns-then-is_none c = λ moment.
    subst (λ (reply : Reply). Quietly (calls.GetBlob c.args.digest.now) moment c.args.name.now c.args.repo.now (turns.Done reply) c.args.repo.now) (sym c.blob_unknown.ensures)
    (get_unknown moment c.args.name.now c.args.repo.now c.args.digest.now (sym c.size.ensures ∙ none_sized c.size.result c.if-is_none.ensures))

use Rattle.std.proofs.Common.{refl, sym, subst, ◌∙◌}
use Rattle.zot_model.specs.declared.call.Call.TheVariants as calls
use Rattle.zot_model.specs.declared.reply.Reply.{Reply}
use Rattle.zot_row.proofs.BlobLemmas.{none_sized}
use Rattle.zot_row.proofs.LearnLemmas.{delete_unknown, reads_after}
use Rattle.zot_row.specs.Going.{Quietly}
use Rattle.zot_row.specs.declared.stage.Learning.TheVariants as learning
use Rattle.zot_row.specs.declared.turn.Turn.TheVariants as turns
use Rattle.zot_row.proofs.blobs.delete_blob.Goals as goal

pub returns-then-is_none : goal.returns-then-is_none
returns-then-is_none c = λ moment.
    subst (λ (reply : Reply). Quietly (calls.DeleteBlob c.args.digest.now) moment c.args.name.now c.args.repo.now (turns.Done reply) c.args.repo.now) (sym c.blob_unknown.ensures)
    (delete_unknown moment c.args.name.now c.args.repo.now c.args.digest.now (sym c.size.ensures ∙ none_sized c.size.result c.if-is_none.ensures))

pub returns-in-Ok : goal.returns-in-Ok
returns-in-Ok c = λ moment.
    reads_after c.args.name.now c.args.repo.now (learning.Delete c.args.digest.now) c.unread.new.self (calls.DeleteBlob c.args.digest.now) moment c.in-Ok.left.items c.read_next.result c.in-Ok.ensures.list c.in-Ok.ensures.stays refl c.read_next.ensures

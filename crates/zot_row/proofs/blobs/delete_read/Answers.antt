use Rattle.std.proofs.Common.{is_some, sym, ap, subst, ◌∙◌}
use Rattle.zot_model.specs.declared.reply.Reply.{Reply}
use Rattle.zot_row.proofs.LearnLemmas.{delete_on_needed, delete_on_unknown}
use Rattle.zot_row.proofs.BlobLemmas.{none_sized}
use Rattle.zot_row.specs.Going.{GoesOnReading}
use Rattle.zot_row.specs.declared.stage.Learning.TheVariants as learning
use Rattle.zot_row.specs.declared.turn.Turn.TheVariants as turns
use Rattle.zot_table.specs.Standing.{AllRead}
use Rattle.zot_row.proofs.blobs.delete_read.Goals as goal

pub returns-then-is_none : goal.returns-then-is_none
returns-then-is_none c =
    subst (λ (reply : Reply). GoesOnReading (learning.Delete c.args.digest.now) (AllRead c.args.repo.now) 2 c.args.name.now c.args.repo.now (turns.Done reply)) (sym c.blob_unknown.ensures)
    (delete_on_unknown c.args.name.now c.args.repo.now c.args.digest.now (sym c.size.ensures ∙ none_sized c.size.result c.if-is_none.ensures))

pub returns-then-is_needed : goal.returns-then-is_needed
returns-then-is_needed c =
    subst (λ (reply : Reply). GoesOnReading (learning.Delete c.args.digest.now) (AllRead c.args.repo.now) 2 c.args.name.now c.args.repo.now (turns.Done reply)) (sym c.not_allowed.ensures)
    (delete_on_needed c.args.name.now c.args.repo.now c.args.digest.now (ap is_some (sym c.size.ensures) ∙ c.if-is_none.ensures) (sym c.if-is_needed.ensures))

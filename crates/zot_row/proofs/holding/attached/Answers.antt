use Rattle.std.proofs.Common.{sym, subst}
use Rattle.zot_model.specs.declared.reply.Reply.{Reply}
use Rattle.zot_row.proofs.AttachLemmas.{attach_ungiven}
use Rattle.zot_row.specs.Going.{Resumes}
use Rattle.zot_row.specs.Refusals.{pool_refusal}
use Rattle.zot_row.specs.declared.stage.Stage.TheVariants as stages
use Rattle.zot_row.specs.declared.turn.Turn.TheVariants as turns
use Rattle.zot_table.specs.Tables.{RepoTable}
use Rattle.zot_row.proofs.holding.attached.Goals as goal

pub returns-in_default : goal.returns-in_default
returns-in_default g c =
    let objects = g.S.Store.objects c.args.part.now in
    let faults = g.S.Store.faults c.args.part.now in
    let stage = stages.Attach c.args.digest c.args.size c.args.purpose in
    subst (λ (r : Reply). Resumes stage c.args.answered c.args.moment c.args.name.now c.args.repo.now objects faults (turns.Done r) c.settle.new.self objects faults) (sym c.ungiven.ensures)
    (subst (λ (t : RepoTable). Resumes stage c.args.answered c.args.moment c.args.name.now c.args.repo.now objects faults (turns.Done (pool_refusal c.args.answered)) t objects faults) (sym c.settle.ensures)
    (attach_ungiven c.args.moment c.args.name.now c.args.repo.now c.args.digest c.args.size c.args.purpose c.args.answered c.in_default.not-Done objects faults))

use Rattle.std.proofs.Common.{sym, subst}
use Rattle.zot_contents.specs.declared.pool_reply.PoolReply.{PoolReply}
use Rattle.zot_model.specs.declared.reply.Reply.{Reply}
use Rattle.zot_row.proofs.MountLemmas.{mount_ungiven}
use Rattle.zot_row.specs.Going.{Resumes}
use Rattle.zot_row.specs.Refusals.{pool_refusal}
use Rattle.zot_row.specs.declared.stage.Stage.TheVariants as stages
use Rattle.zot_row.specs.declared.turn.Turn.TheVariants as turns
use Rattle.zot_table.specs.Tables.{RepoTable}
use Rattle.zot_row.proofs.mounting.mounted.Goals as goal

pub returns-in-Size : goal.returns-in-Size
returns-in-Size g c =
    let objects = g.S.Store.objects c.args.part.now in
    let faults = g.S.Store.faults c.args.part.now in
    subst (λ (a : PoolReply). Resumes (stages.Mount c.args.digest c.args.made c.args.rest) a c.args.moment c.args.name.now c.args.repo.now objects faults (turns.Done c.take.result) c.take.new.repo objects faults) (sym c.in-Size.is)
    (c.take.ensures c.args.name.now c.args.made c.args.rest objects faults)

pub returns-in_default : goal.returns-in_default
returns-in_default g c =
    let objects = g.S.Store.objects c.args.part.now in
    let faults = g.S.Store.faults c.args.part.now in
    let stage = stages.Mount c.args.digest c.args.made c.args.rest in
    let repo = c.args.repo.now in
    subst (λ (r : Reply). Resumes stage c.args.answered c.args.moment c.args.name.now repo objects faults (turns.Done r) c.settle-in_default.new.self objects faults) (sym c.ungiven.ensures)
    (subst (λ (t : RepoTable). Resumes stage c.args.answered c.args.moment c.args.name.now repo objects faults (turns.Done (pool_refusal c.args.answered)) t objects faults) (sym c.settle-in_default.ensures)
    (mount_ungiven c.args.moment c.args.name.now repo c.args.digest c.args.made c.args.rest c.args.answered c.in_default.not-Size objects faults))

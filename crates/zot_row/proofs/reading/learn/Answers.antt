use Rattle.std.proofs.Common.{sym, subst}
use Rattle.zot_contents.specs.declared.pool_reply.PoolReply.{PoolReply}
use Rattle.zot_model.specs.declared.reply.Reply.{Reply}
use Rattle.zot_row.proofs.LearnLemmas.{learn_ungiven}
use Rattle.zot_row.specs.Going.{ResumesQuietly}
use Rattle.zot_row.specs.declared.stage.Stage.TheVariants as stages
use Rattle.zot_row.specs.declared.turn.Turn.TheVariants as turns
use Rattle.zot_row.proofs.reading.learn.Goals as goal

pub returns-in-Content : goal.returns-in-Content
returns-in-Content c = λ moment.
    subst (λ (answered : PoolReply). ResumesQuietly (stages.Learn c.args.digest c.args.left c.args.purpose) answered moment c.args.name.now c.args.repo.now c.learn_bytes.result c.learn_bytes.new.repo)
    (sym c.in-Content.is) (c.learn_bytes.ensures moment)

pub returns-in_default : goal.returns-in_default
returns-in_default c = λ moment.
    subst (λ (reply : Reply). ResumesQuietly (stages.Learn c.args.digest c.args.left c.args.purpose) c.args.answered moment c.args.name.now c.args.repo.now (turns.Done reply) c.args.repo.now)
    (sym c.ungiven.ensures) (learn_ungiven moment c.args.name.now c.args.repo.now c.args.digest c.args.left c.args.purpose c.args.answered)

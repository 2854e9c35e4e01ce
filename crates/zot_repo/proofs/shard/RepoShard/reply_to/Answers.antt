use Rattle.std.proofs.Common.{subst}
use Rattle.zot_model.specs.declared.row.RowCall.TheVariants.{Ask}
use Rattle.zot_model.specs.declared.row.RowReply.{RowReply}
use Rattle.zot_repo.specs.Answering.{AnswersCall}
use Rattle.zot_repo.proofs.shard.RepoShard.reply_to.Goals as goal

pub returns : goal.returns
returns g c = subst (λ (r : RowReply). AnswersCall c.args.self.now c.args.pool.now.shards.items (Ask c.args.request.now) c.args.moment r c.answer.new.self c.answer.new.pool.shards.items) c.into_reply.ensures c.answer.ensures

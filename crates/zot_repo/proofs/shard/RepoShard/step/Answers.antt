use Rattle.std.proofs.Common.{sym, subst}
use Rattle.zot_model.specs.declared.row.RowCall.{RowCall}
use Rattle.zot_repo.specs.Answering.{AnswersCall}
use Rattle.zot_repo.specs.RowGoing.{IsOnOwn, IsOwn}
use Rattle.zot_repo.proofs.shard.RepoShard.step.Goals as goal

pub answer-requires : goal.answer-requires
answer-requires g c = subst (λ (o : RowCall). IsOnOwn (IsOwn c.args.self.now.core.config c.args.self.now.core.row) o) c.request.ensures c.requires

pub returns : goal.returns
returns g c = subst (λ (o : RowCall). AnswersCall c.args.self.now c.args.pool.now.shards.items o c.args.moment c.answer.result c.answer.new.self c.answer.new.pool.shards.items) (sym c.request.ensures) c.answer.ensures

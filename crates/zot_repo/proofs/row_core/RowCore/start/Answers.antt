use Rattle.std.proofs.Common.{sym, subst}
use Rattle.zot_model.specs.declared.row.RowCall.{RowCall}
use Rattle.zot_repo.specs.RowGoing.{IsOnOwn, IsOwn}
use Rattle.zot_repo.specs.Shards.{BeginsCall}
use Rattle.zot_repo.proofs.row_core.RowCore.start.Goals as goal

pub ask-requires-clause-own : goal.ask-requires-clause-own
ask-requires-clause-own g c = subst (λ (o : RowCall). IsOnOwn (IsOwn c.args.self.now.config c.args.self.now.row) o) c.request.ensures c.requires.own

pub returns : goal.returns
returns g c = subst (λ (o : RowCall). BeginsCall c.args.self.now o c.args.moment c.ask.result c.ask.new.self) (sym c.request.ensures) c.ask.ensures

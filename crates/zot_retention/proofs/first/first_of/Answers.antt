use Rattle.std.proofs.Common.{arith}
use Rattle.zot_retention.proofs.RankLemmas.{up_to_last}
use Rattle.zot_retention.proofs.first.first_of.Goals as goal

pub returns : goal.returns
returns c = λ row. up_to_last c.args.pushes.now c.args.count _ row c.requires (omega arith) (omega arith) c.index-pushes-count.is

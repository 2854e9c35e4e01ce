use Rattle.std.proofs.Common.{sym, subst}
use Rattle.zot_pool.proofs.OpeningLemmas.{closed_parts, closed_tight}
use Rattle.zot_pool.specs.Opening.{AreTightTrees}
use Rattle.zot_pool.proofs.pool.Pool.close.Goals as goal

pub returns-clause-tight : goal.returns-clause-tight
returns-clause-tight g c tight =
    subst AreTightTrees (sym (closed_parts c.args.self.shards.items c.args.self.room.items c.give_back.new.parts.items c.args.self.roomy.none c.give_back.ensures)) (closed_tight c.args.self.shards.items c.args.self.numbered tight)

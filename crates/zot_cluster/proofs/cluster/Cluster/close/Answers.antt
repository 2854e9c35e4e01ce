use Rattle.std.proofs.Common.{IfSome, map, sym, ap, subst}
use Rattle.zot_pool.specs.Pools.{holds, objects_of}
use Rattle.zot_rows.proofs.OpeningLemmas.{closed_parts}
use Rattle.zot_rows.specs.Rows.{states_of}
use Rattle.zot_cluster.proofs.ClosingLemmas.{rows_stand}
use Rattle.zot_cluster.specs.Parts.{StandForRows}
use Rattle.zot_cluster.proofs.cluster.Cluster.close.Goals as goal

pub returns-clause-stand : goal.returns-clause-stand
returns-clause-stand g c = λ moment opened agreed.
    let rows = c.args.self.rows in
    let objects = g.S.Store.objects in
    let shards = c.close-rows.result.1.items in
    subst (λ l. IfSome (states_of rows) (StandForRows rows.config moment (map objects l) (map objects shards))) (sym c.close-rows.ensures.parts)
    (rows_stand rows.config rows.rows.items rows.numbered moment opened c.close-rows.ensures.stand (map objects shards) (holds (objects_of rows.pool.shards.items)) (ap holds (closed_parts objects rows.pool.shards.items shards c.close-rows.ensures.shards)) agreed)

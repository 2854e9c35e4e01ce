use Rattle.zot_contents.proofs.HoldingLemmas.{kept_stand, told_held}
use Rattle.zot_contents.proofs.shard.DigestShard.holdings.Goals as goal

pub list-requires : goal.list-requires
list-requires g c = kept_stand (g.S.Store.objects c.args.self.now.part) c.args.self.now.number c.args.self.now.digests c.args.self.now.own c.args.self.now.stand

pub returns-clause-ok : goal.returns-clause-ok
returns-clause-ok g c =
    told_held (g.S.Store.objects c.args.self.now.part) c.args.self.now.number c.args.self.now.digests (λ l. l.items) c.list.result c.args.self.now.own c.args.self.now.stand c.list.ensures.ok

use Rattle.zot_contents.proofs.OpeningLemmas.{all_mean}
use Rattle.zot_contents.proofs.shard.DigestShard.open.Goals as goal

pub returns-in-Ok-clause-meaning : goal.returns-in-Ok-clause-meaning
returns-in-Ok-clause-meaning g c = all_mean (g.S.Store.objects c.args.part) c.args.number c.in-Ok.digests c.in-Ok.ensures.stand

use Rattle.zot_manifests.proofs.SetLemmas.{taken}
use Rattle.zot_manifests.proofs.index.Index.take.Goals as goal

pub returns-clause-taken : goal.returns-clause-taken
returns-clause-taken g c = taken g.K.Ord.cmp c.args.self.now.sets.entries c.remove.new.self.entries c.args.digest.now c.remove.ensures.updates.0

use Rattle.std.proofs.Common.{false}
use Rattle.zot_manifests.proofs.SetLemmas.{written}
use Rattle.zot_manifests.proofs.index.Index.take_from.Goals as goal

pub returns-in-Some-clause-removed : goal.returns-in-Some-clause-removed
returns-in-Some-clause-removed g c =
    written g.K.Ord.cmp c.args.self.now.sets.entries (c.get_mut.follows.lender c.remove.new.self).entries c.args.digest.now false c.args.value.now c.in-Some.set.now c.remove.new.self
    c.in-Some.ensures.value (c.get_mut.follows.holds c.remove.new.self).3 c.remove.ensures.updates.0

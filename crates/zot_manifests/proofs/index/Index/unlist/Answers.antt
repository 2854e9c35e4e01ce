use Rattle.std.proofs.Common.{◌∙◌}
use Rattle.zot_manifests.proofs.SetLemmas.{dropped}
use Rattle.zot_manifests.proofs.index.Index.unlist.Goals as goal

pub returns-then-take_from : goal.returns-then-take_from
returns-then-take_from g c = λ digest other.
    dropped g.K.Ord.cmp c.take_from.new.self.sets.entries c.remove.new.self.entries c.args.digest.now c.remove.ensures.updates.0 (c.take_from.ensures.none c.if-take_from.true) digest other
    ∙ c.take_from.ensures.removed digest other

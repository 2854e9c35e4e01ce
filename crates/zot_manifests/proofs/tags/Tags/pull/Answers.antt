use Rattle.std.proofs.Common.{refl}
use Rattle.std.specs.FinMap as finite
use Rattle.zot_manifests.proofs.TagIndexLemmas.{lists_pulled}
use Rattle.zot_manifests.proofs.tags.Tags.pull.Goals as goal

pub invariant_of-self : goal.invariant_of-self
invariant_of-self c = λ on. lists_pulled c.self.inside.map c.pull.new.self c.self.inside.index.sets c.args.tag.now c.args.moment (finite.get c.self.inside.map c.args.tag.now) refl c.pull.ensures (c.self.invariant on)

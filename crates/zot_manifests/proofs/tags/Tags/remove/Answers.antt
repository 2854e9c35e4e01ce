use Rattle.zot_manifests.proofs.TagIndexLemmas.{lists_removed}
use Rattle.zot_manifests.proofs.tags.Tags.remove.Goals as goal

pub invariant_of-self : goal.invariant_of-self
invariant_of-self c = λ on. lists_removed c.self.inside.map c.remove.new.self c.self.inside.index.sets c.unlist_tag.new.index.sets c.args.tag.now c.remove.ensures.removed c.unlist_tag.ensures (c.self.invariant on)

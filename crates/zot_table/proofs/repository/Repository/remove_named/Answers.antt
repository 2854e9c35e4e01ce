use Rattle.zot_table.proofs.ChangeLemmas.{kept_untagged}
use Rattle.zot_table.proofs.repository.Repository.remove_named.Goals as goal

pub invariant_of-self : goal.invariant_of-self
invariant_of-self c = kept_untagged _ _ _ _ _ c.self.invariant c.remove_tag.new.self c.in-Tag.tag c.remove_tag.result c.remove_tag.ensures.removed c.remove_tag.ensures.stays

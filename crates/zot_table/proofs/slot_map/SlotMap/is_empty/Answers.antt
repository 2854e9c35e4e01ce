use Rattle.std.proofs.Common.{sym, ◌∙◌}
use Rattle.zot_manifests.proofs.TableLemmas.{empty_of_none, none_of_empty}
use Rattle.zot_table.proofs.slot_map.SlotMap.is_empty.Goals as goal

pub returns : goal.returns
returns c = (
  λ h. sym c.self.view_is ∙ empty_of_none c.self.inside.tree.entries (c.is_empty.ensures.0 h),
  λ h. c.is_empty.ensures.1 (none_of_empty c.self.inside.tree.entries (c.self.view_is ∙ h)),
)

use Rattle.std.proofs.Common.{take}
use Rattle.zot_layout.specs.Groups.{AreGroups}
use Rattle.zot_layout.proofs.groups.group_tags.Given as goal

-- the tags so far are grouped
abbrev pub invariant-loop-tag : goal.invariant-loop-tag
invariant-loop-tag l = AreGroups (take l.tag-index l.tags) l.groups

use Rattle.std.proofs.Common.{◌≡◌, [], drop}
use Rattle.zot_layout.specs.Reading.{with_tags}
use Rattle.zot_layout.proofs.sorting.sorted_tags.Given as goal

-- the tags so far, with those that are left, are all
abbrev pub invariant-loop-one : goal.invariant-loop-one
invariant-loop-one l = with_tags l.moment l.tree.entries (drop l.one-index l.listed) ≡ with_tags l.moment [] l.listed

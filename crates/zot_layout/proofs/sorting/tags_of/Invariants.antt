use Rattle.std.proofs.Common.{◌≡◌, ◌++◌, map}
use Rattle.zot_layout.specs.Reading.{tag_of}
use Rattle.zot_layout.proofs.sorting.tags_of.Given as goal

-- the tags so far, with those that are left, are all
abbrev pub invariant-loop-tag : goal.invariant-loop-tag
invariant-loop-tag l = map tag_of l.fn.tree.entries ≡ l.tags.items ++ map tag_of l.tag-iterator

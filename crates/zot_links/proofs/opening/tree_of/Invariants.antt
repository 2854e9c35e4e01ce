use Rattle.std.proofs.Common.{◌≡◌, ◌++◌, map}
use Rattle.std.specs.Vec.Iter.{into_iter_items}
use Rattle.zot_links.specs.Records.{pair_of}
use Rattle.zot_links.proofs.opening.tree_of.Given as goal

-- the lines so far, with those that are left
abbrev pub invariant-loop-line : goal.invariant-loop-line
invariant-loop-line l = map pair_of l.fn.lines.items ≡ l.tree.entries ++ map pair_of (into_iter_items l.line-iterator)

use Rattle.std.proofs.Common.{◌≡◌, ◌++◌}
use Rattle.zot_links.proofs.links.copied.Given as goal

-- the holders so far, with those that are left
abbrev pub invariant-loop-name : goal.invariant-loop-name
invariant-loop-name l = l.tree.entries ≡ l.made.entries ++ l.name-iterator

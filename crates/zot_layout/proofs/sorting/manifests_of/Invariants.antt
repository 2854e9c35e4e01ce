use Rattle.std.proofs.Common.{◌≡◌, ◌++◌, map}
use Rattle.zot_layout.specs.Reading.{manifest_of}
use Rattle.zot_layout.proofs.sorting.manifests_of.Given as goal

-- the manifests so far, with those that are left, are all
abbrev pub invariant-loop-digest : goal.invariant-loop-digest
invariant-loop-digest l = map manifest_of l.fn.tree.entries ≡ l.manifests.items ++ map manifest_of l.digest-iterator

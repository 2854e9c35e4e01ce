use Rattle.std.proofs.Common.{◌≡◌, [], drop}
use Rattle.zot_layout.specs.Reading.{with_manifests}
use Rattle.zot_layout.proofs.sorting.sorted_manifests.Given as goal

-- the manifests so far, with those that are left, are all
abbrev pub invariant-loop-one : goal.invariant-loop-one
invariant-loop-one l = with_manifests l.moment l.tree.entries (drop l.one-index l.listed) ≡ with_manifests l.moment [] l.listed

use Rattle.std.proofs.Common.{◌≡◌, Contains}
use Rattle.std.specs.List.{AllByRecursion}
use Rattle.std.specs.Vec.Iter.{into_iter_items}
use Rattle.zot_outside.specs.Objects.{Keeps}
use Rattle.zot_layout.specs.Rows.{AreIndexes}
use Rattle.zot_layout.proofs.OpeningLemmas.{Left}
use Rattle.zot_layout.proofs.opening.read_layouts.Given as goal

-- the repositories so far, with those that are left, are all, the store is as before, and each has an index
abbrev pub invariant-loop-name : goal.invariant-loop-name
invariant-loop-name g l =
    let objects = g.S.Store.objects in
    let faults = g.S.Store.faults in
    (faults l.part ≡ faults l.initial.part) × Keeps (objects l.initial.part) (objects l.part)
    × Left (objects l.initial.part) l.moment l.fn.names.items l.repos.items (into_iter_items l.name-iterator)
    × AreIndexes (Contains l.fn.names.items) l.repos.items × AllByRecursion (Contains l.fn.names.items) (into_iter_items l.name-iterator)

use Rattle.std.proofs.Common.{◌≡◌, ◌-◌, ◌≤◌, length, take}
use Rattle.zot_outside.specs.Objects.{Keeps}
use Rattle.zot_outside.specs.Whole.{HasObject}
use Rattle.zot_outside.proofs.stores.whole.compare.Given as goal

-- so many bytes were compared and are alike, and the store is as before
abbrev pub invariant-loop-at : goal.invariant-loop-at
invariant-loop-at g l =
    let objects = g.S.Store.objects in
    let faults = g.S.Store.faults in
    (faults l.store ≡ faults l.initial.store) × Keeps (objects l.initial.store) (objects l.store) × (l.at ≤ length l.bytes)
    × HasObject (objects l.initial.store) l.path (λ object. take l.at object ≡ take l.at l.bytes)

abbrev pub decreases-loop-at : goal.decreases-loop-at
decreases-loop-at g l = length l.bytes - l.at

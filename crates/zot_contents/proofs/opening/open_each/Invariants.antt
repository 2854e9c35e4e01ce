use Rattle.std.proofs.Common.{◌≡◌, ℕ, List, IsSome}
use Rattle.std.specs.FinMap as map
use Rattle.zot_contents.proofs.OpeningLemmas.{AreLeft, HasOpened}
use Rattle.zot_contents.specs.Opening.{WhereFound}
use Rattle.zot_contents.proofs.opening.open_each.Given as goal

-- the store is as before, and the digests so far have their holders
abbrev pub invariant-loop-digest : goal.invariant-loop-digest
invariant-loop-digest g l =
    let objects = g.S.Store.objects in
    let faults = g.S.Store.faults in
    (faults l.part ≡ faults l.initial.part) × (objects l.part ≡ objects l.initial.part) × AreLeft l.found l.digest-iterator
    × ((digest : List ℕ) → IsSome (map.get l.digests digest) → IsSome (map.get l.found digest))
    × WhereFound (objects l.initial.part) l.found (λ told number. HasOpened told number l.digest-iterator l.digests)

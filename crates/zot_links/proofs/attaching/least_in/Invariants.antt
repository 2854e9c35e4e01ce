use Rattle.std.proofs.Common.{◌≡◌, ℕ, List, Option, IsSome, IfSome}
use Rattle.std.specs.List.{AllByRecursion}
use Rattle.zot_links.specs.Aims.{IsFirst}
use Rattle.zot_links.specs.Meaning.{object_at}
use Rattle.zot_links.proofs.attaching.least_in.Given as goal

-- the store is as before, the holders that are left are there, and the first of them that has the bytes is the first of all
abbrev pub invariant-loop-name : goal.invariant-loop-name
invariant-loop-name g l =
    let objects = g.S.Store.objects in
    let faults = g.S.Store.faults in
    (faults l.part ≡ faults l.initial.part) × (objects l.part ≡ objects l.initial.part)
    × IfSome (objects l.initial.part) (λ told. AllByRecursion (λ e. IsSome (object_at told l.digest e.0)) l.name-iterator)
    × IfSome (objects l.initial.part) (λ told. (found : Option (List ℕ)) → IsFirst (object_at told l.digest) l.bytes l.name-iterator found → IsFirst (object_at told l.digest) l.bytes l.tree.entries found)

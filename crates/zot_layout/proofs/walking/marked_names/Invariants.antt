use Rattle.std.proofs.Common.{◌≡◌}
use Rattle.std.specs.List.{AllByRecursion}
use Rattle.zot_outside.specs.Objects.{Keeps}
use Rattle.zot_outside.specs.PathWalks.{HasRoom, last_path}
use Rattle.zot_layout.specs.Rows.{IsOfRow}
use Rattle.zot_layout.proofs.WalkLemmas.{Walked}
use Rattle.zot_layout.proofs.walking.marked_names.Given as goal

-- the names up to the last path were found, the store is as before, and the names are own ones
abbrev pub invariant-loop : goal.invariant-loop
invariant-loop g l =
    let objects = g.S.Store.objects in
    let faults = g.S.Store.faults in
    (faults l.part ≡ faults l.initial.part) × Keeps (objects l.initial.part) (objects l.part) × HasRoom (objects l.part) l.walk
    × Walked (IsOfRow l.key l.members l.row) (objects l.initial.part) (last_path l.walk) l.names.items l.counter
    × AllByRecursion (IsOfRow l.key l.members l.row) l.names.items

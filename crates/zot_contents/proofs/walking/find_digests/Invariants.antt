use Rattle.std.proofs.Common.{◌≡◌}
use Rattle.zot_outside.specs.PathWalks.{HasRoom, last_path}
use Rattle.zot_contents.specs.Shards.{AllOwn}
use Rattle.zot_contents.proofs.WalkLemmas.{Walked}
use Rattle.zot_contents.proofs.walking.find_digests.Given as goal

-- the digests up to the last path were found, and the store is as before
abbrev pub invariant-loop : goal.invariant-loop
invariant-loop g l =
    let objects = g.S.Store.objects in
    let faults = g.S.Store.faults in
    (faults l.part ≡ faults l.initial.part) × (objects l.part ≡ objects l.initial.part) × HasRoom (objects l.part) l.walk × AllOwn l.number l.found
    × Walked l.number (objects l.initial.part) (last_path l.walk) l.found l.counter

use Rattle.std.proofs.Common.{◌≡◌, ◌++◌, IfSome, map}
use Rattle.std.specs.List.{AllByRecursion, flat_map}
use Rattle.zot_links.specs.Meaning.{StandsWhereTold}
use Rattle.zot_contents.specs.Listing.{holdings_of, holdings_under, place_of, places_of, places_under}
use Rattle.zot_contents.proofs.listing.list.Given as goal

-- the store is as before, the holders that are left stand, and the holdings so far, with theirs, are all
abbrev pub invariant-loop-digest : goal.invariant-loop-digest
invariant-loop-digest g l =
    let objects = g.S.Store.objects in
    let faults = g.S.Store.faults in
    (faults l.part ≡ faults l.initial.part) × (objects l.part ≡ objects l.initial.part)
    × AllByRecursion (λ e. StandsWhereTold (objects l.initial.part) e.0 e.1) l.digest-iterator
    × IfSome (objects l.initial.part) (λ told. holdings_of told l.digests ≡ l.holdings.items ++ flat_map (λ e. holdings_under told e.0 e.1) l.digest-iterator)
    × (places_of l.digests ≡ map place_of l.holdings.items ++ flat_map (λ e. places_under e.0 e.1) l.digest-iterator)

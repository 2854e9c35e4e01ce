use Rattle.std.proofs.Common.{◌≡◌, ◌++◌, map, IfSome}
use Rattle.zot_contents.specs.Listing.{holding_of, holdings_under, place_of, places_under}
use Rattle.zot_contents.proofs.listing.list_digest.Given as goal

-- the store is as before, and the holdings so far, with those of the holders that are left, are all
abbrev pub invariant-loop-name : goal.invariant-loop-name
invariant-loop-name g l =
    let objects = g.S.Store.objects in
    let faults = g.S.Store.faults in
    (faults l.part ≡ faults l.initial.part) × (objects l.part ≡ objects l.initial.part)
    × IfSome (objects l.initial.part) (λ told. l.initial.holdings.items ++ holdings_under told l.digest l.links ≡ l.holdings.items ++ map (λ e. holding_of told l.digest e.0) l.name-iterator)
    × (map place_of l.initial.holdings.items ++ places_under l.digest l.links ≡ map place_of l.holdings.items ++ map (λ e. (l.digest, e.0)) l.name-iterator)

-- What a chain over a slice gives that keeps some items and turns each into another.
use Rattle.std.proofs.Common.{◌≡◌, Bool, List, map, Bor, sym, ap, ◌∙◌}
use Rattle.std.specs.List.{AllZip, filter}
use Rattle.rayon.specs.Lists.{filter_by_mask}
use Rattle.rayon.proofs.ToStd.{answers-by_ref, filter-map, filter_by_mask-filter, slice-map}

-- the items zs show the slice, the answers pick some of them, and each picked one is turned by f
pub picked : {X Y : Type 0} (test : X → Bool) (f : X → Y) (slice : List X) (zs : List (Bor X)) (answers : List Bool) (made : List Y) →
    map (λ (z : Bor X). z.now) zs ≡ slice →
    AllZip (λ z b. (r : Bor (Bor X)) × (r.now ≡ z) × (b ≡ test r.now.now)) zs answers →
    AllZip (λ (z : Bor X) y. y ≡ f z.now) (filter_by_mask zs answers) made →
    made ≡ map f (filter test slice)
picked {X} test f slice zs answers made shown each turned =
    let asked = λ (z : Bor X). test z.now in
    slice-map (filter_by_mask zs answers) (filter test slice)
    (ap (map (λ (z : Bor X). z.now)) (filter_by_mask-filter asked zs answers (answers-by_ref asked zs answers each))
    ∙ sym (filter-map test (λ (z : Bor X). z.now) zs)
    ∙ ap (filter test) shown)
    f made turned

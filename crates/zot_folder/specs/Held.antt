-- What a walk holds of the folders that it has read, where the objects are told.
use Rattle.std.specs.List.{AllWithin}
use Rattle.std.specs.Prelude.{IfSome, Option, length, map as each, string_bytes}
use Rattle.zot_folder.specs.declared.listing.Listing.{Listing}
use Rattle.zot_folder.specs.declared.walk.Walk.{Walk}
use Rattle.zot_folder.specs.Walks.{ShowsAfter}
use Rattle.zot_outside.specs.Objects.{Objects}

-- each listing that isn't out of date shows its folder's objects after the path that the walk has reached
abbrev pub IsWalkOf : Objects → Walk → Type 0
IsWalkOf objects walk =
    AllWithin (λ (listing : Listing). ShowsAfter objects (string_bytes walk.since) (string_bytes listing.folder) (each string_bytes listing.paths.items)) walk.listings.items walk.stale (length walk.listings.items)

-- the same where the objects are told
abbrev pub Walks : Option Objects → Walk → Type 0
Walks objects walk = IfSome objects (λ told. IsWalkOf told walk)

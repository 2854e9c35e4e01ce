-- How a walk comes to the next path of a tree, where the tree tells its files.
use Rattle.std.proofs.Common.{◌≡◌, ◌≢◌, ℕ, List, Option, Some, None, sym, subst, All, IfSome, Global, String, map, string_bytes}
use Rattle.std.proofs.lemmas.List.Elements.{All-map}
use Rattle.std.specs.declared.cmp.Ordering.TheVariants.{Greater, Less}
use Rattle.zot_folder.proofs.SearchLemmas.{begun_at, shows_after}
use Rattle.zot_folder.proofs.TreeLemmas.{objects_named}
use Rattle.zot_folder.specs.Held.{IsWalkOf}
use Rattle.zot_folder.proofs.FolderLemmas.{file_after}
use Rattle.zot_folder.specs.Listing.{IsChild, IsFileAbove}
use Rattle.zot_folder.specs.Steps.{IsStepAbove, Leads}
use Rattle.zot_folder.specs.Trees.{Files, objects_in, objects_of}
use Rattle.zot_folder.specs.Walks.{IsFolderOf, IsListing, Searches, ShowsAfter}
use Rattle.zot_folder.specs.declared.listing.Listing.{Listing}
use Rattle.zot_folder.specs.declared.spot.Spot.{Spot}
use Rattle.zot_folder.specs.declared.spot.Step.{Step}
use Rattle.zot_folder.specs.declared.spot.Step.TheVariants.{End}
use Rattle.zot_folder.specs.declared.walk.Walk.{Walk}
use Rattle.zot_outside.specs.Objects.{Objects, path_cmp}

module _ {X : Type 0} where
  -- a fact that follows where something is told
  pub told_follows : (told : Option X) (P Q : X → Type 0) → ((x : X) → P x → Q x) → IfSome told P → IfSome told Q
  told_follows None P Q f h = tt
  told_follows (Some x) P Q f h = f x h

  pub told_both : (told : Option X) (P Q R : X → Type 0) → ((x : X) → P x → Q x → R x) → IfSome told P → IfSome told Q → IfSome told R
  told_both None P Q R f h k = tt
  told_both (Some x) P Q R f h k = f x h k

  pub told_always : (told : Option X) (P : X → Type 0) → ((x : X) → P x) → IfSome told P
  told_always None P f = tt
  told_always (Some x) P f = f x

-- a walk stands where a search does, if it was one of the objects
abbrev pub Stands : Walk → List ℕ → Spot → Walk → Objects → Type 0
Stands before after spot walk objects = IsWalkOf objects before → IsWalkOf objects walk × Searches objects after (string_bytes spot.folder) (string_bytes spot.bound)

-- a walk that read a folder
pub read_walk : (files : Option Files) (walk added : Walk) (folder : List ℕ) (listing : Listing) → string_bytes listing.folder ≡ folder → All (λ path. IsChild folder (string_bytes path)) listing.paths.items
    → IfSome (objects_of files) (λ objects. IsListing objects folder (map string_bytes listing.paths.items))
    → ((objects : Objects) → ShowsAfter objects (string_bytes walk.since) (string_bytes listing.folder) (map string_bytes listing.paths.items) → IsWalkOf objects walk → IsWalkOf objects added)
    → IfSome (objects_of files) (λ objects. IsWalkOf objects walk → IsWalkOf objects added)
read_walk files walk added folder listing is children lists add =
    told_follows (objects_of files) (λ objects. IsListing objects folder (map string_bytes listing.paths.items)) (λ objects. IsWalkOf objects walk → IsWalkOf objects added)
    (λ objects shown h. add objects
    (subst (λ f. ShowsAfter objects (string_bytes walk.since) f (map string_bytes listing.paths.items)) (sym is)
    (shows_after objects (string_bytes walk.since) folder (map string_bytes listing.paths.items) (All-map (IsChild folder) string_bytes listing.paths.items children) shown)) h)
    lists

-- a search that begins
pub stands_first : (files : Option Files) (after : List ℕ) (spot : Spot) (before walk : Walk) → string_bytes spot.bound ≡ after → IsFolderOf after (string_bytes spot.folder) → ((objects : Objects) → IsWalkOf objects before → IsWalkOf objects walk)
    → IfSome (objects_of files) (Stands before after spot walk)
stands_first None after spot before walk bound of turned = tt
stands_first (Some told) after spot before walk bound of turned = λ h.
    (turned (objects_in told) h, subst (λ b. Searches (objects_in told) after (string_bytes spot.folder) b) (sym bound) (begun_at (objects_in told) after (string_bytes spot.folder) (objects_named told) of))

-- a step of it
pub stands_next : (files : Option Files) (after : List ℕ) (spot next : Spot) (before walk stepped : Walk) (step : Step) → string_bytes walk.since ≡ after → IfSome (objects_of files) (Stands before after spot walk)
    → ((objects : Objects) → IsWalkOf objects walk → Searches objects (string_bytes walk.since) (string_bytes spot.folder) (string_bytes spot.bound) → Leads objects (string_bytes walk.since) step next)
    → ((objects : Objects) → IsWalkOf objects walk → IsWalkOf objects stepped) → IfSome (objects_of files) (λ objects. IsWalkOf objects before → IsWalkOf objects stepped × Leads objects after step next)
stands_next files after spot next before walk stepped step since stands leads kept =
    told_follows (objects_of files) (Stands before after spot walk) (λ objects. IsWalkOf objects before → IsWalkOf objects stepped × Leads objects after step next)
    (λ objects at h.
    let here = at h in
    (kept objects here.0, subst (λ s. Leads objects s step next) since (leads objects here.0 (subst (λ s. Searches objects s (string_bytes spot.folder) (string_bytes spot.bound)) (sym since) here.1))))
    stands

-- what a search ends with is greater than the path that was asked
pub ends_above : (after : List ℕ) (spot next : Spot) (step : Step) (found : Option (String Global)) → path_cmp after (string_bytes spot.bound) ≢ Greater → IsStepAbove spot step next → step ≡ End found → IfSome found (λ path. IsFileAbove after (string_bytes path))
ends_above after spot next step found begun above is = file_after after (string_bytes spot.bound) found begun (subst (λ s. IsStepAbove spot s next) is above)

pub less_of_above : {Z : Type 0} (after since : List ℕ) (found : Option (String Z)) → since ≡ after → IfSome found (λ path. IsFileAbove after (string_bytes path)) → IfSome found (λ path. path_cmp since (string_bytes path) ≡ Less)
less_of_above after since None is h = tt
less_of_above after since (Some path) is h = subst (λ s. path_cmp s (string_bytes path) ≡ Less) (sym is) h.above

-- a search that goes on
pub stands_on : (files : Option Files) (after : List ℕ) (next : Spot) (before stepped : Walk) (step other : Step) → step ≡ other → IfSome (objects_of files) (λ objects. IsWalkOf objects before → IsWalkOf objects stepped × Leads objects after step next)
    → IfSome (objects_of files) (λ objects. IsWalkOf objects before → IsWalkOf objects stepped × Leads objects after other next)
stands_on files after next before stepped step other is led = subst (λ s. IfSome (objects_of files) (λ objects. IsWalkOf objects before → IsWalkOf objects stepped × Leads objects after s next)) is led

-- and whose walk has read a folder
pub stands_read : (files : Option Files) (after : List ℕ) (next : Spot) (before stepped read : Walk) → IfSome (objects_of files) (Stands before after next stepped) → IfSome (objects_of files) (λ objects. IsWalkOf objects stepped → IsWalkOf objects read)
    → IfSome (objects_of files) (Stands before after next read)
stands_read files after next before stepped read stands added =
    told_both (objects_of files) (Stands before after next stepped) (λ objects. IsWalkOf objects stepped → IsWalkOf objects read) (Stands before after next read) (λ objects at add h. (add (at h).0, (at h).1)) stands added

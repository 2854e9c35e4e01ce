-- What a walk holds, while it goes on and while the objects change.
use Rattle.std.proofs.Common.{◌≡◌, ◌≢◌, ℕ, ◌<◌, ◌≤◌, min, max, true, false, ◌⊎◌, inl, inr, List, [], ◌∷◌, ◌++◌, length, get_or, take, map, Option, refl, sym, ap, ◌∙◌, subst, arith, ltb, is_some, Global, String, string_bytes, Result, Ok, Err, IfOk}
use Rattle.std.proofs.lemmas.Bool.{ltb-false, ltb-true, true≢false}
use Rattle.std.proofs.Math.ListN.{get_or-append}
use Rattle.std.proofs.lemmas.List.{get_or-take, get_or_push, length-append, length-take-le}
use Rattle.std.proofs.lemmas.List.Elements.{All-contains}
use Rattle.std.specs.FinMap as objects_map
use Rattle.std.specs.List.{AllWithin, HoldsAt}
use Rattle.std.specs.declared.cmp.Ordering.TheVariants.{Less, Greater}
use Rattle.zot_folder.proofs.FolderLemmas.{above_bound}
use Rattle.zot_folder.proofs.SearchLemmas.{leads, step_above}
use Rattle.zot_folder.specs.Held.{IsWalkOf}
use Rattle.zot_folder.specs.Listing.{FindsAbove, front}
use Rattle.zot_folder.specs.Steps.{IsStep, IsStepAbove, Leads}
use Rattle.zot_folder.specs.Walks.{Searches, ShowsAfter, is_prefix}
use Rattle.zot_folder.specs.declared.spot.Spot.{Spot}
use Rattle.zot_folder.specs.declared.spot.Step.{Step}
use Rattle.zot_folder.specs.declared.walk.Walk.{Walk}
use Rattle.zot_folder.specs.declared.listing.Listing.{Listing}
use Rattle.zot_outside.specs.Objects.{Objects, path_cmp}

-- some element of a list that has one
get_or_given : {X : Type 0} (xs : List X) (k : ℕ) → k < length xs → X
get_or_given [] k inside = absurd (omega (arith, inside))
get_or_given (x ∷ xs) k inside = x

-- what a listing shows of the objects after a path
abbrev pub Shown : Objects → List ℕ → Listing → Type 0
Shown objects since listing = ShowsAfter objects since (string_bytes listing.folder) (map string_bytes listing.paths.items)

module _ {X : Type 0} (P Q : X → Type 0) where
  pub within_all : (xs : List X) (low high : ℕ) → ((x : X) → P x → Q x) → AllWithin P xs low high → AllWithin Q xs low high
  within_all xs low high f h = λ k d from to. f (get_or xs k d) (h k d from to)

  -- from the later of two places on both facts hold
  pub within_both : (R : X → Type 0) (xs : List X) (low other high : ℕ) → ((x : X) → P x → Q x → R x) → AllWithin P xs low high → AllWithin Q xs other high → AllWithin R xs (max low other) high
  within_both R xs low other high f h k = λ i d from to. f (get_or xs i d) (h i d (omega (arith, from)) to) (k i d (omega (arith, from)) to)

module _ {X : Type 0} (P : X → Type 0) where
  -- the first listings alone
  pub within_first : (xs : List X) (low n : ℕ) → n ≤ length xs → AllWithin P xs low (length xs) → AllWithin P (take n xs) low (length (take n xs))
  within_first xs low n few h = λ k d from to.
      let inside : k < n = omega (arith, to, length-take-le n xs few) in
      subst P (sym (get_or-take n xs k d inside)) (h k d from (omega arith))

  -- one more listing
  pub within_more : (xs : List X) (x : X) (low : ℕ) → AllWithin P xs low (length xs) → P x → AllWithin P (xs ++ x ∷ []) (min low (length xs)) (length (xs ++ x ∷ []))
  within_more xs x low h one = λ k d from to.
      elim (ltb k (length xs)) as (λ b. ltb k (length xs) ≡ b → P (get_or (xs ++ x ∷ []) k d)) [
        | true ↦ λ before. let inside = ltb-true k (length xs) before in subst P (sym (get_or-append xs (x ∷ []) d k inside)) (h k d (omega (arith, from, inside)) inside)
        | false ↦ λ late.
            let last : length xs ≡ k = let past = ltb-false k (length xs) late in omega (arith, to, past, length-append xs (x ∷ [])) in
            subst P (sym (get_or_push xs x d k last)) one
      ] refl

  -- from their end on nothing is said
  pub within_min : (xs : List X) (low : ℕ) → AllWithin P xs low (length xs) → AllWithin P xs (min low (length xs)) (length xs)
  within_min xs low h = λ k d from to. h k d (omega (arith, from, to)) to

  -- nothing is held
  pub within_none : (xs : List X) (low : ℕ) → xs ≡ [] → AllWithin P xs low (length xs)
  within_none xs low is = λ k d from to. absurd (omega (arith, to, ap length is))

-- a walk that has come further
pub shown_later : (objects : Objects) (since later folder : List ℕ) (paths : List (List ℕ)) → path_cmp since later ≢ Greater → ShowsAfter objects since folder paths → ShowsAfter objects later folder paths
shown_later objects since later folder paths le h =
    (h.0, λ path listed file above. h.1 path listed file (above_bound since later path le above), λ path held above. h.2 path held (above_bound since later path le above))

-- a path that the walk has still to find in the folder is another than one that is behind it or beside the folder
far : (path since folder : List ℕ) → (path_cmp since path ≢ Less) ⊎ (is_prefix (front folder) path ≡ false) → (other : List ℕ) → path_cmp since other ≡ Less → is_prefix (front folder) other ≡ true → other ≢ path
far path since folder (inl late) other above below same = late (sym (ap (path_cmp since) same) ∙ above)
far path since folder (inr beside) other above below same = true≢false (sym below ∙ ap (is_prefix (front folder)) same ∙ beside)

-- a change that is behind the walk, or beside the folder
pub shown_after_change : (old now : Objects) (path since folder : List ℕ) (paths : List (List ℕ)) → ((other : List ℕ) → other ≢ path → objects_map.get now other ≡ objects_map.get old other)
    → (path_cmp since path ≢ Less) ⊎ (is_prefix (front folder) path ≡ false) → ShowsAfter old since folder paths → ShowsAfter now since folder paths
shown_after_change old now path since folder paths others apart h = (
  h.0,
  λ other listed file above. ap is_some (others other (far path since folder apart other above (All-contains (λ p. (is_prefix (front folder) p ≡ true) × (p ≢ 47 ∷ [])) paths other h.0 listed).0)) ∙ h.1 other listed file above,
  λ other held above below. h.2 other (sym (ap is_some (others other (far path since folder apart other above below))) ∙ held) above below,
)

-- a walk that has come further, or holds nothing
pub later_walk : (objects : Objects) (walk : Walk) (since : String Global) (reached : List ℕ) → string_bytes since ≡ reached → (path_cmp (string_bytes walk.since) reached ≢ Greater) ⊎ (walk.listings.items ≡ []) → IsWalkOf objects walk
    → IsWalkOf objects (record walk { since = since })
later_walk objects walk since reached is (inl le) h =
    within_all (Shown objects (string_bytes walk.since)) (Shown objects (string_bytes since)) walk.listings.items walk.stale (length walk.listings.items)
    (λ listing shown. shown_later objects (string_bytes walk.since) (string_bytes since) (string_bytes listing.folder) (map string_bytes listing.paths.items) (subst (λ p. path_cmp (string_bytes walk.since) p ≢ Greater) (sym is) le) shown) h
later_walk objects walk since reached is (inr none) h = within_none (Shown objects (string_bytes since)) walk.listings.items walk.stale none

-- a walk that notes a change behind it
pub noted_late : (old now : Objects) (path : List ℕ) (walk : Walk) → ((other : List ℕ) → other ≢ path → objects_map.get now other ≡ objects_map.get old other) → path_cmp (string_bytes walk.since) path ≢ Less → IsWalkOf old walk → IsWalkOf now walk
noted_late old now path walk others late h =
    within_all (Shown old (string_bytes walk.since)) (Shown now (string_bytes walk.since)) walk.listings.items walk.stale (length walk.listings.items)
    (λ listing shown. shown_after_change old now path (string_bytes walk.since) (string_bytes listing.folder) (map string_bytes listing.paths.items) others (inl late) shown) h

-- and one before it, in folders that are out of date then
pub noted_early : (old now : Objects) (path : List ℕ) (walk : Walk) (from : ℕ) → ((other : List ℕ) → other ≢ path → objects_map.get now other ≡ objects_map.get old other)
    → AllWithin (λ (listing : Listing). is_prefix (front (string_bytes listing.folder)) path ≡ false) walk.listings.items from (length walk.listings.items) → IsWalkOf old walk → IsWalkOf now (record walk { stale = max walk.stale from })
noted_early old now path walk from others beside h =
    within_both (Shown old (string_bytes walk.since)) (λ (listing : Listing). is_prefix (front (string_bytes listing.folder)) path ≡ false) (Shown now (string_bytes walk.since)) walk.listings.items walk.stale from (length walk.listings.items)
    (λ listing shown apart. shown_after_change old now path (string_bytes walk.since) (string_bytes listing.folder) (map string_bytes listing.paths.items) others (inr apart) shown) h beside

-- the step of a walk from the listing at a place
pub leads_at : (objects : Objects) (walk : Walk) (spot after : Spot) (least : Option (List ℕ)) (step : Step) (at : ℕ) → walk.stale ≤ at → at < length walk.listings.items → IsWalkOf objects walk
    → HoldsAt (λ (listing : Listing). string_bytes listing.folder ≡ string_bytes spot.folder) walk.listings.items at
    → HoldsAt (λ (listing : Listing). FindsAbove (map string_bytes listing.paths.items) (string_bytes spot.bound) least) walk.listings.items at
    → IsStep least spot step after → Searches objects (string_bytes walk.since) (string_bytes spot.folder) (string_bytes spot.bound) → Leads objects (string_bytes walk.since) step after
leads_at objects walk spot after least step at fresh inside h folder found is search =
    let d = get_or_given walk.listings.items at inside in
    let listing = get_or walk.listings.items at d in
    leads objects (string_bytes walk.since) spot after (map string_bytes listing.paths.items) least step
    (subst (λ f. ShowsAfter objects (string_bytes walk.since) f (map string_bytes listing.paths.items)) (folder d) (h at d fresh inside)) (found d) is search

pub step_at : (walk : Walk) (spot after : Spot) (least : Option (List ℕ)) (step : Step) (at : ℕ) → at < length walk.listings.items
    → HoldsAt (λ (listing : Listing). FindsAbove (map string_bytes listing.paths.items) (string_bytes spot.bound) least) walk.listings.items at → IsStep least spot step after → IsStepAbove spot step after
step_at walk spot after least step at inside found is =
    let d = get_or_given walk.listings.items at inside in
    step_above spot after (map string_bytes (get_or walk.listings.items at d).paths.items) least step (found d) is

-- a fact of what a call gave
pub ok_follows : {Y E : Type 0} (r : Result Y E) (P Q : Y → Type 0) → ((y : Y) → P y → Q y) → IfOk r P → IfOk r Q
ok_follows (Ok y) P Q f h = f y h
ok_follows (Err e) P Q f h = tt

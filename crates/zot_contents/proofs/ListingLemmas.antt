-- The list of what is held, as it is made.
use Rattle.std.proofs.Common.{◌≡◌, ℕ, append_assoc, List, [], ◌∷◌, ◌++◌, map, Option, Some, None, IfSome, refl, sym, ap, subst, ◌∙◌}
use Rattle.std.specs.Prelude.{IsSome, unwrap_or}
use Rattle.std.proofs.lemmas.List.{map-append}
use Rattle.std.specs.FinMap as finite
use Rattle.std.specs.FinMap.{get-entries}
use Rattle.std.specs.FinMap.Entries.{find}
use Rattle.std.specs.List.{AllByRecursion, flat_map}
use Rattle.std.specs.List.Sorted.{IsStrictlySortedBy}
use Rattle.zot_digest.specs.ByteMap.{byte_cmp, map_of}
use Rattle.zot_maps.proofs.Entries.{AllFound, all_found, entries_of_map}
use Rattle.zot_maps.proofs.Maps.{byte_order}
use Rattle.zot_outside.specs.Objects.{Objects}
use Rattle.zot_links.specs.Meaning.{Links, StandsWhereTold}
use Rattle.zot_contents.specs.Listing.{holding_of, holdings_of, holdings_under, place_of, places_of, places_under}
use Rattle.zot_contents.specs.Shards.{Kept, StandsAt}
use Rattle.zot_contents.specs.declared.holding.Holding.{Holding}

-- ---- what is told

-- an equation that holds of each told value
pub alike_told : {A : Type 0} (objects : Option Objects) (before after : Objects → A) → ((told : Objects) → before told ≡ after told) → IfSome objects (λ told. before told ≡ after told)
alike_told None before after h = tt
alike_told (Some told) before after h = h told

-- what was added is no longer left
pub listed_more : (objects now : Option Objects) (whole added rest : Objects → List Holding) (made new : List Holding) → now ≡ objects
    → IfSome objects (λ told. whole told ≡ made ++ (added told ++ rest told)) → IfSome now (λ told. new ≡ made ++ added told) → IfSome objects (λ told. whole told ≡ new ++ rest told)
listed_more None now whole added rest made new same all is = tt
listed_more (Some told) now whole added rest made new same all is =
    all ∙ sym (append_assoc made (added told) (rest told)) ∙ ap (λ l. l ++ rest told) (sym (subst (λ o. IfSome o (λ told. new ≡ made ++ added told)) same is))

-- one holding was added
pub pushed : (objects : Option Objects) (holding : Holding) (is : Objects → Holding) (made new : List Holding) → IfSome objects (λ told. holding ≡ is told) → new ≡ made ++ (holding ∷ [])
    → IfSome objects (λ told. new ≡ made ++ (is told ∷ []))
pushed None holding is made new same more = tt
pushed (Some told) holding is made new same more = more ∙ ap (λ h. made ++ (h ∷ [])) same

-- ---- places

-- those that were added are no longer left
pub placed_more : {A : Type 0} (whole made added rest new : List A) → whole ≡ made ++ (added ++ rest) → new ≡ made ++ added → whole ≡ new ++ rest
placed_more whole made added rest new all is = all ∙ sym (append_assoc made added rest) ∙ ap (λ l. l ++ rest) (sym is)

-- behind the same beginning
pub behind : {A : Type 0} (front a b : List A) → a ≡ b → front ++ a ≡ front ++ b
behind front a b is = ap (λ l. front ++ l) is

-- that of a holding which was added
pub place_pushed : (made new : List Holding) (holding : Holding) (place : List ℕ × List ℕ) → place_of holding ≡ place → new ≡ made ++ (holding ∷ [])
    → map place_of new ≡ map place_of made ++ (place ∷ [])
place_pushed made new holding place is more = ap (map place_of) more ∙ map-append place_of made (holding ∷ []) ∙ ap (λ p. map place_of made ++ (p ∷ [])) is

-- ---- the entries of trees

-- the holders of a digest, by the entries of their tree
pub under_entries : (told : Objects) (digest : List ℕ) (links : Links) (es : List (List ℕ × Option (List ℕ))) → map_of es ≡ links → IsStrictlySortedBy byte_cmp (map (λ e. e.0) es)
    → holdings_under told digest links ≡ map (λ e. holding_of told digest e.0) es
under_entries told digest links es is sorted =
    ap (λ (l : List (List ℕ × Option (List ℕ))). map (λ e. holding_of told digest e.0) l) (ap finite.entries (sym is) ∙ entries_of_map byte_order es sorted)

-- all digests
pub of_entries : (told : Objects) (kept : Kept) (es : List (List ℕ × Links)) → map_of es ≡ kept → IsStrictlySortedBy byte_cmp (map (λ e. e.0) es)
    → holdings_of told kept ≡ flat_map (λ e. holdings_under told e.0 e.1) es
of_entries told kept es is sorted =
    ap (λ (l : List (List ℕ × Links)). flat_map (λ e. holdings_under told e.0 e.1) l) (ap finite.entries (sym is) ∙ entries_of_map byte_order es sorted)

-- their places
pub places_under_entries : (digest : List ℕ) (links : Links) (es : List (List ℕ × Option (List ℕ))) → map_of es ≡ links → IsStrictlySortedBy byte_cmp (map (λ e. e.0) es)
    → places_under digest links ≡ map (λ e. (digest, e.0)) es
places_under_entries digest links es is sorted =
    ap (λ (l : List (List ℕ × Option (List ℕ))). map (λ e. (digest, e.0)) l) (ap finite.entries (sym is) ∙ entries_of_map byte_order es sorted)

pub places_of_entries : (kept : Kept) (es : List (List ℕ × Links)) → map_of es ≡ kept → IsStrictlySortedBy byte_cmp (map (λ e. e.0) es)
    → places_of kept ≡ flat_map (λ e. places_under e.0 e.1) es
places_of_entries kept es is sorted =
    ap (λ (l : List (List ℕ × Links)). flat_map (λ e. places_under e.0 e.1) l) (ap finite.entries (sym is) ∙ entries_of_map byte_order es sorted)

-- the holders of each digest that is kept stand
stand_among : (objects : Option Objects) (kept : Kept) (all es : List (List ℕ × Links)) → finite.entries kept ≡ all → AllFound byte_order all es
    → ((digest : List ℕ) → IsSome (finite.get kept digest) → StandsAt objects kept digest) → AllByRecursion (λ e. StandsWhereTold objects e.0 e.1) es
stand_among objects kept all [] is found stand = tt
stand_among objects kept all (e ∷ es) is found stand =
    let here : finite.get kept e.0 ≡ Some e.1 = get-entries kept e.0 ∙ ap (find byte_cmp e.0) is ∙ found.0 in (
      subst (λ (l : Links). StandsWhereTold objects e.0 l) (ap (λ (o : Option Links). unwrap_or o finite.empty) here) (stand e.0 (subst (λ o. IsSome o) (sym here) refl)),
      stand_among objects kept all es is found.1 stand,
    )

pub entries_stand : (objects : Option Objects) (kept : Kept) (es : List (List ℕ × Links)) → map_of es ≡ kept → IsStrictlySortedBy byte_cmp (map (λ e. e.0) es)
    → ((digest : List ℕ) → IsSome (finite.get kept digest) → StandsAt objects kept digest) → AllByRecursion (λ e. StandsWhereTold objects e.0 e.1) es
entries_stand objects kept es is sorted = stand_among objects kept es es (ap finite.entries (sym is) ∙ entries_of_map byte_order es sorted) (all_found byte_order es sorted)

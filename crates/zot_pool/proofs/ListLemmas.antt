-- The list of what is held under the digests of a shard, also where nothing is told.
use Rattle.std.proofs.Common.{◌≡◌, ℕ, List, [], ◌∷◌, ◌++◌, map, Option, is_some, refl, sym, ap, subst, ◌∙◌}
use Rattle.std.specs.FinMap as finite
use Rattle.std.specs.FinMap.{entries_sorted, get-entries}
use Rattle.std.specs.List.{All, AllByRecursion, flat_map}
use Rattle.std.specs.List.Sorted.{IsStrictlySortedBy}
use Rattle.std.proofs.lemmas.List.{map-append}
use Rattle.std.proofs.lemmas.List.Elements.{All-from_recursion}
use Rattle.zot_digest.specs.ByteMap.{byte_cmp}
use Rattle.zot_maps.proofs.Entries.{AllFound, all_found, keys_ascend}
use Rattle.zot_maps.proofs.Maps.{byte_order}
use Rattle.zot_outside.specs.Objects.{Objects}
use Rattle.zot_links.specs.Meaning.{Links}
use Rattle.zot_contents.proofs.HoldingLemmas.{own_long, sorted_among}
use Rattle.zot_contents.specs.Holdings.{key_of}
use Rattle.zot_contents.specs.Listing.{holding_of, holdings_of, holdings_under, place_of, places_of, places_under}
use Rattle.zot_contents.specs.Shards.{AllOwn, IsOfShard, Kept}
use Rattle.zot_contents.specs.declared.holding.Holding.{Holding}

abbrev Place : Type 0
Place = List ℕ × List ℕ

-- ---- their digests

both_lists : {X : Type 0} (P : X → Type 0) (xs ys : List X) → AllByRecursion P xs → AllByRecursion P ys → AllByRecursion P (xs ++ ys)
both_lists P [] ys h k = k
both_lists P (x ∷ xs) ys h k = (h.0, both_lists P xs ys h.1 k)

module _ (number : ℕ) (kept : Kept) (own : AllOwn number kept) where
  abbrev IsOwn : Place → Type 0
  IsOwn place = IsOfShard number place.0

  own_under : (digest : List ℕ) (es : List (List ℕ × Option (List ℕ))) → IsOfShard number digest → AllByRecursion IsOwn (map (λ e. (digest, e.0)) es)
  own_under digest [] is = tt
  own_under digest (e ∷ es) is = (is, own_under digest es is)

  own_among : (es : List (List ℕ × Links)) → AllFound byte_order (finite.entries kept) es → AllByRecursion IsOwn (flat_map (λ e. places_under e.0 e.1) es)
  own_among [] found = tt
  own_among (e ∷ es) found =
      both_lists IsOwn (places_under e.0 e.1) (flat_map (λ e. places_under e.0 e.1) es) (own_under e.0 (finite.entries e.1) (own e.0 (ap is_some (get-entries kept e.0 ∙ found.0)))) (own_among es found.1)

  own_listed : (list : List Holding) → AllByRecursion IsOwn (map place_of list) → AllByRecursion (λ (h : Holding). IsOfShard number h.digest) list
  own_listed [] h = tt
  own_listed (x ∷ list) h = (h.0, own_listed list h.1)

  abbrev found : AllFound byte_order (finite.entries kept) (finite.entries kept)
  found = all_found byte_order (finite.entries kept) (keys_ascend byte_cmp (finite.entries kept) (entries_sorted kept))

  pub listed_own : (list : List Holding) → map place_of list ≡ places_of kept → All (λ h. IsOfShard number h.digest) list
  listed_own list is = All-from_recursion (λ h. IsOfShard number h.digest) list (own_listed list (subst (λ l. AllByRecursion IsOwn l) (sym is) (own_among (finite.entries kept) found)))

-- ---- their order

joined : (list : List Holding) → map key_of list ≡ map (λ (p : Place). p.0 ++ p.1) (map place_of list)
joined [] = refl
joined (h ∷ list) = ap (λ l. key_of h ∷ l) (joined list)

-- the list of what is told is of the same places
places_under_told : (told : Objects) (digest : List ℕ) (links : Links) → map place_of (holdings_under told digest links) ≡ places_under digest links
places_under_told told digest links = each (finite.entries links) where
  each : (es : List (List ℕ × Option (List ℕ))) → map place_of (map (λ e. holding_of told digest e.0) es) ≡ map (λ e. (digest, e.0)) es
  each [] = refl
  each (e ∷ es) = ap (λ l. (digest, e.0) ∷ l) (each es)

places_told : (told : Objects) (es : List (List ℕ × Links)) → map place_of (flat_map (λ e. holdings_under told e.0 e.1) es) ≡ flat_map (λ e. places_under e.0 e.1) es
places_told told [] = refl
places_told told (e ∷ es) =
    map-append place_of (holdings_under told e.0 e.1) (flat_map (λ e. holdings_under told e.0 e.1) es) ∙ ap (λ l. l ++ map place_of (flat_map (λ e. holdings_under told e.0 e.1) es)) (places_under_told told e.0 e.1)
    ∙ ap (λ l. places_under e.0 e.1 ++ l) (places_told told es)

pub listed_ordered : (number : ℕ) (kept : Kept) (list : List Holding) → AllOwn number kept → map place_of list ≡ places_of kept → IsStrictlySortedBy byte_cmp (map key_of list)
listed_ordered number kept list own is =
    let told : Objects = finite.empty in
    let sorted = keys_ascend byte_cmp (finite.entries kept) (entries_sorted kept) in
    let same : map key_of (holdings_of told kept) ≡ map key_of list =
    joined (holdings_of told kept) ∙ ap (map (λ (p : Place). p.0 ++ p.1)) (places_told told (finite.entries kept) ∙ sym is) ∙ sym (joined list)
    in
    subst (IsStrictlySortedBy byte_cmp) same (sorted_among told 32 (finite.entries kept) (own_long number kept own (finite.entries kept) (all_found byte_order (finite.entries kept) sorted)) sorted)

use Rattle.std.proofs.Common.{rules, ◌≡◌, ◌∷◌, ◌++◌, ℕ, IfSome, List, map, refl, sym, subst, ap, ◌∙◌}
use Rattle.std.specs.List.{AllByRecursion, flat_map}
use Rattle.std.specs.List.Sorted.{IsStrictlySortedBy}
use Rattle.zot_digest.specs.ByteMap.{byte_cmp}
use Rattle.zot_links.specs.Meaning.{Links, StandsWhereTold}
use Rattle.zot_contents.specs.Listing.{holdings_of, holdings_under, place_of, places_of, places_under}
use Rattle.zot_contents.proofs.ListingLemmas.{alike_told, entries_stand, listed_more, of_entries, placed_more, places_of_entries}
use Rattle.zot_contents.proofs.listing.list.Goals as goal

abbrev Entries : Type 0
Entries = List (List ℕ × Links)

pub loop-digest-init : goal.loop-digest-init
loop-digest-init g c =
    let objects = g.S.Store.objects c.args.part.now in
    let given : c.into_iter-digest-iterator.result ≡ c.tree.result.now.entries = search rules in
    let sorted : IsStrictlySortedBy byte_cmp (map (λ (e : List ℕ × Links). e.0) c.tree.result.now.entries) = search rules in (
      refl,
      refl,
      subst (λ (l : Entries). AllByRecursion (λ e. StandsWhereTold objects e.0 e.1) l) (sym given)
          (entries_stand objects c.args.digests.now c.tree.result.now.entries c.tree.ensures sorted c.requires),
      alike_told objects _ _
          (λ told. of_entries told c.args.digests.now c.tree.result.now.entries c.tree.ensures sorted
          ∙ ap (λ (l : Entries). flat_map (λ e. holdings_under told e.0 e.1) l) (sym given)
          ∙ ap (λ l. l ++ flat_map (λ (e : List ℕ × Links). holdings_under told e.0 e.1) c.into_iter-digest-iterator.result) (sym c.new-holdings.ensures.items)),
      places_of_entries c.args.digests.now c.tree.result.now.entries c.tree.ensures sorted
          ∙ ap (λ (l : Entries). flat_map (λ e. places_under e.0 e.1) l) (sym given)
          ∙ ap (λ l. map place_of l ++ flat_map (λ (e : List ℕ × Links). places_under e.0 e.1) c.into_iter-digest-iterator.result) (sym c.new-holdings.ensures.items),
    )

pub loop-digest-preserved : goal.loop-digest-preserved
loop-digest-preserved g c =
    let objects = g.S.Store.objects in
    let next : c.loop-digest.digest-iterator ≡ (c.in-Some.digest.now, c.in-Some.links.now) ∷ c.next.new.self = search rules in (
      c.in_ok-list_digest.ensures.cause.kept ∙ c.loop-digest.invariant.0,
      c.in_ok-list_digest.ensures.kept ∙ c.loop-digest.invariant.1,
      (subst (λ (l : Entries). AllByRecursion (λ e. StandsWhereTold (objects c.args.part.now) e.0 e.1) l) next c.loop-digest.invariant.2).1,
      listed_more (objects c.args.part.now) (objects c.loop-digest.part) (λ told. holdings_of told c.args.digests.now)
          (λ told. holdings_under told c.in-Some.digest.now c.in-Some.links.now) (λ told. flat_map (λ (e : List ℕ × Links). holdings_under told e.0 e.1) c.next.new.self)
          c.loop-digest.holdings.items c.list_digest.new.holdings.items c.loop-digest.invariant.1
          (subst (λ (l : Entries). IfSome (objects c.args.part.now) (λ told. holdings_of told c.args.digests.now ≡ c.loop-digest.holdings.items ++ flat_map (λ e. holdings_under told e.0 e.1) l)) next c.loop-digest.invariant.3)
          c.in_ok-list_digest.ensures.ok,
      placed_more (places_of c.args.digests.now) (map place_of c.loop-digest.holdings.items) (places_under c.in-Some.digest.now c.in-Some.links.now)
          (flat_map (λ (e : List ℕ × Links). places_under e.0 e.1) c.next.new.self) (map place_of c.list_digest.new.holdings.items)
          (subst (λ (l : Entries). places_of c.args.digests.now ≡ map place_of c.loop-digest.holdings.items ++ flat_map (λ e. places_under e.0 e.1) l) next c.loop-digest.invariant.4)
          c.in_ok-list_digest.ensures.places,
    )

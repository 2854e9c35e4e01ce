use Rattle.std.proofs.Common.{rules, ◌≡◌, [], ◌∷◌, ◌++◌, ℕ, IfSome, List, Option, refl, subst, sym, ap, ◌∙◌, map}
use Rattle.std.specs.List.Sorted.{IsStrictlySortedBy}
use Rattle.zot_digest.specs.ByteMap.{byte_cmp}
use Rattle.zot_contents.specs.Listing.{holding_of, holdings_under, place_of, places_under}
use Rattle.zot_contents.proofs.ListingLemmas.{alike_told, behind, listed_more, place_pushed, placed_more, places_under_entries, pushed, under_entries}
use Rattle.zot_contents.proofs.listing.list_digest.Goals as goal

pub loop-name-init : goal.loop-name-init
loop-name-init g c =
    let digest = c.args.digest.now in
    let given : c.into_iter-name-iterator.result ≡ c.tree.result.now.entries = search rules in
    let sorted : IsStrictlySortedBy byte_cmp (map (λ (e : List ℕ × Option (List ℕ)). e.0) c.tree.result.now.entries) = search rules in (
      refl,
      refl,
      alike_told (g.S.Store.objects c.args.part.now) _ _
          (λ told. ap (λ l. c.args.holdings.now.items ++ l)
          (under_entries told c.args.digest.now c.args.links.now c.tree.result.now.entries c.tree.ensures sorted
          ∙ ap (λ (l : List (List ℕ × Option (List ℕ))). map (λ e. holding_of told c.args.digest.now e.0) l) (sym given))),
      behind (map place_of c.args.holdings.now.items) (places_under digest c.args.links.now) (map (λ (e : List ℕ × Option (List ℕ)). (digest, e.0)) c.into_iter-name-iterator.result)
          (places_under_entries digest c.args.links.now c.tree.result.now.entries c.tree.ensures sorted
          ∙ ap (λ (l : List (List ℕ × Option (List ℕ))). map (λ e. (digest, e.0)) l) (sym given)),
    )

pub loop-name-preserved : goal.loop-name-preserved
loop-name-preserved g c =
    let objects = g.S.Store.objects in
    let digest = c.args.digest.now in
    let next : c.loop-name.name-iterator ≡ (c.in-Some.name.now, c.in-Some.field-0-1.now) ∷ c.next.new.self = search rules in (
      c.in_ok-holding.ensures.cause.kept ∙ c.loop-name.invariant.0,
      c.in_ok-holding.ensures.kept ∙ c.loop-name.invariant.1,
      listed_more (objects c.args.part.now) (objects c.loop-name.part) (λ told. c.args.holdings.now.items ++ holdings_under told digest c.args.links.now)
          (λ told. holding_of told digest c.in-Some.name.now ∷ []) (λ told. map (λ (e : List ℕ × Option (List ℕ)). holding_of told digest e.0) c.next.new.self)
          c.loop-name.holdings.items c.push.new.holdings.items c.loop-name.invariant.1
          (subst (λ (l : List (List ℕ × Option (List ℕ))). IfSome (objects c.args.part.now) (λ told. c.args.holdings.now.items ++ holdings_under told digest c.args.links.now ≡ c.loop-name.holdings.items ++ map (λ e. holding_of told digest e.0) l)) next c.loop-name.invariant.2)
          (pushed (objects c.loop-name.part) c.in_ok-holding.holding (λ told. holding_of told digest c.in-Some.name.now) c.loop-name.holdings.items c.push.new.holdings.items c.in_ok-holding.ensures.ok c.in_ok-push.ensures),
      placed_more (map place_of c.args.holdings.now.items ++ places_under digest c.args.links.now) (map place_of c.loop-name.holdings.items)
          ((digest, c.in-Some.name.now) ∷ []) (map (λ (e : List ℕ × Option (List ℕ)). (digest, e.0)) c.next.new.self) (map place_of c.push.new.holdings.items)
          (subst (λ (l : List (List ℕ × Option (List ℕ))). map place_of c.args.holdings.now.items ++ places_under digest c.args.links.now ≡ map place_of c.loop-name.holdings.items ++ map (λ e. (digest, e.0)) l) next c.loop-name.invariant.3)
          (place_pushed c.loop-name.holdings.items c.push.new.holdings.items c.in_ok-holding.holding (digest, c.in-Some.name.now) c.in_ok-holding.ensures.place c.in_ok-push.ensures),
    )

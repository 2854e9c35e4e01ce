-- The list of what is held, against what is held.
use Rattle.std.proofs.Common.{arith, is_eq, ◌≡◌, ℕ, List, [], ◌∷◌, ◌++◌, map, length, Option, Some, None, true, false, cond, refl, sym, ap, subst, ◌∙◌}
use Rattle.std.specs.Prelude.{IfOk, IfSome, IsSome, Result, Ok, Err, is_some, option_map, unwrap_or}
use Rattle.std.specs.FinMap as finite
use Rattle.std.specs.FinMap.{entries_sorted, get-empty, get-entries}
use Rattle.std.specs.FinMap.Entries.{find}
use Rattle.std.specs.List.{AllByRecursion, Contains, flat_map}
use Rattle.std.specs.List.Sorted.{IsStrictlySortedBy}
use Rattle.std.specs.Ordering.{eq_by_cmp, nat_cmp, ordering_then}
use Rattle.std.specs.declared.cmp.Ordering.{Ordering}
use Rattle.std.specs.declared.cmp.Ordering.TheVariants.{Equal, Greater, Less}
use Rattle.std.proofs.lemmas.List.Elements.{All-contains, All-from_recursion, Contains-append_left, Contains-append_right}
use Rattle.zot_digest.specs.ByteMap.{byte_cmp}
use Rattle.zot_maps.proofs.Entries.{AllFound, all_found, keys_ascend}
use Rattle.zot_maps.proofs.Maps.{byte_order, number_order, same_key, tied_keys}
use Rattle.zot_names.specs.Name.{IsName}
use Rattle.zot_outside.specs.Objects.{Objects}
use Rattle.zot_links.specs.Meaning.{IsLink, Links, Stands, held, held_by, line_at, object_at, origin_of}
use Rattle.zot_contents.specs.Holdings.{AreAllHeld, IsHeld, key_of}
use Rattle.zot_contents.specs.Listing.{holding_of, holdings_of, holdings_under}
use Rattle.zot_contents.specs.Shards.{AllOwn, AllStand, IsOfShard, Kept, StandsAt, links_at}
use Rattle.zot_contents.specs.declared.holding.Holding.{Holding}

-- ---- each holder holds bytes

witness : {X : Type 0} (o : Option X) → IsSome o → (x : X) × (o ≡ Some x)
witness None some = cc some
witness (Some x) some = (x, refl)

module _ (objects : Objects) (digest : List ℕ) (links : Links) (s : Stands objects digest links) where
  by_origin : (name bytes : List ℕ) (origin : Option (List ℕ)) → finite.get links name ≡ Some origin → (found : List ℕ) × (held_by (object_at objects digest) (Some bytes) origin ≡ Some found)
  by_origin name bytes None is = (bytes, refl)
  by_origin name bytes (Some origin) is = let link : IsLink links name origin = is in witness (object_at objects digest origin) (s.there origin (ap is_some (s.whole name origin link)))

  pub holder_holds : (name : List ℕ) → IsSome (finite.get links name) → (found : List ℕ) × (held objects digest name ≡ Some found)
  unfolding held
  holder_holds name holder =
      let mine = witness (object_at objects digest name) (s.there name holder) in
      let kept = witness (finite.get links name) holder in
      let by = by_origin name mine.0 kept.0 kept.1 in (
        by.0,
        ap (λ o. held_by (object_at objects digest) o (origin_of (line_at objects digest name))) mine.1
            ∙ ap (held_by (object_at objects digest) (Some mine.0)) (s.origins name holder ∙ ap origin_of kept.1) ∙ by.1,
      )

  -- who holds something is a holder
  holds_object : (o : Option (List ℕ)) (origin : Option (List ℕ)) → IsSome (held_by (object_at objects digest) o origin) → IsSome o
  holds_object None origin some = some
  holds_object (Some bytes) origin some = refl

  pub who_holds : (name : List ℕ) → IsName name → IsSome (held objects digest name) → IsSome (finite.get links name)
  unfolding held
  who_holds name is some = s.known name is (holds_object (object_at objects digest name) (origin_of (line_at objects digest name)) some)

-- ---- what is listed is held

module _ (number : ℕ) (told : Objects) where
  listed_holder : (digest : List ℕ) (links : Links) → IsOfShard number digest → Stands told digest links → (name : List ℕ) → IsSome (finite.get links name)
      → IsHeld number (held told) (holding_of told digest name)
  listed_holder digest links own s name holder =
      let by = holder_holds told digest links s name holder in
      record { digest = own; bytes = by.0; holds = by.1; size = ap (λ o. unwrap_or (option_map length o) 0) by.1 }

  listed_under : (digest : List ℕ) (links : Links) → IsOfShard number digest → Stands told digest links → (es : List (List ℕ × Option (List ℕ))) → AllFound byte_order (finite.entries links) es
      → AllByRecursion (IsHeld number (held told)) (map (λ e. holding_of told digest e.0) es)
  listed_under digest links own s [] found = tt
  listed_under digest links own s (e ∷ es) found =
      (listed_holder digest links own s e.0 (ap is_some (get-entries links e.0 ∙ found.0)), listed_under digest links own s es found.1)

  both_all : (P : Holding → Type 0) (xs ys : List Holding) → AllByRecursion P xs → AllByRecursion P ys → AllByRecursion P (xs ++ ys)
  both_all P [] ys h k = k
  both_all P (x ∷ xs) ys h k = (h.0, both_all P xs ys h.1 k)

  listed_among : (kept : Kept) → AllOwn number kept → AllStand (Some told) number kept → (es : List (List ℕ × Links)) → AllFound byte_order (finite.entries kept) es
      → AllByRecursion (IsHeld number (held told)) (flat_map (λ e. holdings_under told e.0 e.1) es)
  listed_among kept own stand [] found = tt
  listed_among kept own stand (e ∷ es) found =
      let here : finite.get kept e.0 ≡ Some e.1 = get-entries kept e.0 ∙ found.0 in
      let mine = own e.0 (ap is_some here) in
      let stands = subst (λ (l : Links). Stands told e.0 l) (ap (λ (o : Option Links). unwrap_or o finite.empty) here) (stand e.0 mine) in
      both_all (IsHeld number (held told)) (holdings_under told e.0 e.1) (flat_map (λ e. holdings_under told e.0 e.1) es)
      (listed_under e.0 e.1 mine stands (finite.entries e.1) (all_found byte_order (finite.entries e.1) (keys_ascend byte_cmp (finite.entries e.1) (entries_sorted e.1))))
      (listed_among kept own stand es found.1)

-- ---- what is held is listed

pair_is : {X : Type 0} (e : List ℕ × X) (key : List ℕ) (x : X) → key ≡ e.0 → Some e.1 ≡ Some x → (key, x) ≡ e
pair_is e key x same value = let here : e.1 ≡ x = cc value in λ i. (same i, sym here i)

module _ {X A : Type 0} where
  -- what is made of an entry that is found
  found_mapped : (f : List ℕ × X → A) (es : List (List ℕ × X)) (key : List ℕ) (x : X) → find byte_cmp key es ≡ Some x → Contains (map f es) (f (key, x))
  found_mapped f [] key x is = cc is
  found_mapped f (e ∷ es) key x is =
      elim (eq_by_cmp byte_cmp key e.0) as (λ b. eq_by_cmp byte_cmp key e.0 ≡ b → cond b (Some e.1) (find byte_cmp key es) ≡ Some x → Contains (map f (e ∷ es)) (f (key, x))) [
        | true ↦ λ tied here.
            let same = pair_is e key x (tied_keys byte_order key e.0 tied) here in
            subst (λ p. Contains (map f (e ∷ es)) (f p)) (sym same) (Contains-append_left (f e ∷ []) (map f es) (f e) (0, omega arith, refl))
        | false ↦ λ free here. Contains-append_right (f e ∷ []) (map f es) (f (key, x)) (found_mapped f es key x here)
      ] refl is

  -- what is made of one among the lists of all
  found_among : (f : List ℕ × X → List A) (es : List (List ℕ × X)) (key : List ℕ) (x : X) (a : A) → find byte_cmp key es ≡ Some x → Contains (f (key, x)) a → Contains (flat_map f es) a
  found_among f [] key x a is has = cc is
  found_among f (e ∷ es) key x a is has =
      elim (eq_by_cmp byte_cmp key e.0) as (λ b. eq_by_cmp byte_cmp key e.0 ≡ b → cond b (Some e.1) (find byte_cmp key es) ≡ Some x → Contains (flat_map f (e ∷ es)) a) [
        | true ↦ λ tied here.
            let same = pair_is e key x (tied_keys byte_order key e.0 tied) here in
            Contains-append_left (f e) (flat_map f es) a (subst (λ p. Contains (f p) a) same has)
        | false ↦ λ free here. Contains-append_right (f e) (flat_map f es) a (found_among f es key x a here has)
      ] refl is

kept_digest : (kept : Kept) (digest name : List ℕ) → IsSome (finite.get (links_at kept digest) name) → (links : Links) × (finite.get kept digest ≡ Some links)
kept_digest kept digest name some = split (finite.get kept digest) refl where
  split : (o : Option Links) → finite.get kept digest ≡ o → (links : Links) × (finite.get kept digest ≡ Some links)
  split None is = let clash : IsSome (finite.get (finite.empty {X = Option (List ℕ)} {R = byte_cmp}) name) = subst (λ (o : Option Links). IsSome (finite.get (unwrap_or o finite.empty) name)) is some in cc (clash, get-empty {X = Option (List ℕ)} byte_cmp name)
  split (Some links) is = (links, is)

listed_all : (told : Objects) (kept : Kept) (digest name : List ℕ) → IsSome (finite.get (links_at kept digest) name) → Contains (holdings_of told kept) (holding_of told digest name)
listed_all told kept digest name some =
    let at = kept_digest kept digest name some in
    let same : links_at kept digest ≡ at.0 = ap (λ (o : Option Links). unwrap_or o finite.empty) at.1 in
    let origin = witness (finite.get at.0 name) (subst (λ (l : Links). IsSome (finite.get l name)) same some) in
    found_among (λ e. holdings_under told e.0 e.1) (finite.entries kept) digest at.0 (holding_of told digest name) (sym (get-entries kept digest) ∙ at.1)
    (found_mapped (λ e. holding_of told digest e.0) (finite.entries at.0) name origin.0 (sym (get-entries at.0 name) ∙ origin.1))

-- ---- their order

same_head : (n : ℕ) → nat_cmp n n ≡ Equal
same_head n = equal (nat_cmp n n) (same_key number_order n) where
  equal : (o : Ordering) → is_eq o ≡ true → o ≡ Equal
  equal Less is = cc is
  equal Equal is = refl
  equal Greater is = cc is

-- behind one beginning lists are ordered as they are without it
behind_one : (front a b : List ℕ) → byte_cmp (front ++ a) (front ++ b) ≡ byte_cmp a b
behind_one [] a b = refl
behind_one (n ∷ front) a b = ap (λ o. ordering_then o (byte_cmp (front ++ a) (front ++ b))) (same_head n) ∙ behind_one front a b

-- behind beginnings of one length, the lesser of which is first, they are ordered as these
behind_two : (d e a b : List ℕ) → length d ≡ length e → byte_cmp d e ≡ Less → byte_cmp (d ++ a) (e ++ b) ≡ Less
behind_two [] [] a b long less = cc less
behind_two [] (m ∷ e) a b long less = absurd (omega (arith, long))
behind_two (n ∷ d) [] a b long less = absurd (omega (arith, long))
behind_two (n ∷ d) (m ∷ e) a b long less =
    elim (nat_cmp n m) as (λ o. ordering_then o (byte_cmp d e) ≡ Less → ordering_then o (byte_cmp (d ++ a) (e ++ b)) ≡ Less) [
      | Less ↦ λ _. refl
      | Equal ↦ λ h. behind_two d e a b (omega (arith, long)) h
      | Greater ↦ λ h. cc h
    ] less

abbrev Above : List ℕ → List Holding → Type 0
Above key holdings = AllByRecursion (λ y. byte_cmp key y ≡ Less) (map key_of holdings)

both_above : (key : List ℕ) (xs ys : List Holding) → Above key xs → Above key ys → Above key (xs ++ ys)
both_above key [] ys h k = k
both_above key (x ∷ xs) ys h k = (h.0, both_above key xs ys h.1 k)

both_sorted : (xs ys : List Holding) → IsStrictlySortedBy byte_cmp (map key_of xs) → IsStrictlySortedBy byte_cmp (map key_of ys) → AllByRecursion (λ x. Above (key_of x) ys) xs
    → IsStrictlySortedBy byte_cmp (map key_of (xs ++ ys))
unfolding IsStrictlySortedBy
both_sorted [] ys h k above = k
both_sorted (x ∷ xs) ys h k above = (both_above (key_of x) xs ys h.0 above.0, both_sorted xs ys h.1 k above.1)

module _ (told : Objects) where
  above_under : (digest name : List ℕ) (es : List (List ℕ × Option (List ℕ))) → AllByRecursion (λ y. byte_cmp name y ≡ Less) (map (λ e. e.0) es)
      → Above (digest ++ name) (map (λ e. holding_of told digest e.0) es)
  above_under digest name [] h = tt
  above_under digest name (e ∷ es) h = (behind_one digest name e.0 ∙ h.0, above_under digest name es h.1)

  sorted_under : (digest : List ℕ) (es : List (List ℕ × Option (List ℕ))) → IsStrictlySortedBy byte_cmp (map (λ e. e.0) es)
      → IsStrictlySortedBy byte_cmp (map key_of (map (λ e. holding_of told digest e.0) es))
  unfolding IsStrictlySortedBy
  sorted_under digest [] h = tt
  sorted_under digest (e ∷ es) h = (above_under digest e.0 es h.0, sorted_under digest es h.1)

  -- the holdings of another digest of that length
  above_other : (digest other name : List ℕ) (es : List (List ℕ × Option (List ℕ))) → length digest ≡ length other → byte_cmp digest other ≡ Less
      → Above (digest ++ name) (map (λ e. holding_of told other e.0) es)
  above_other digest other name [] long less = tt
  above_other digest other name (e ∷ es) long less = (behind_two digest other name e.0 long less, above_other digest other name es long less)

  above_others : (digest name : List ℕ) (es : List (List ℕ × Links)) → AllByRecursion (λ e. length digest ≡ length e.0) es → AllByRecursion (λ y. byte_cmp digest y ≡ Less) (map (λ e. e.0) es)
      → Above (digest ++ name) (flat_map (λ e. holdings_under told e.0 e.1) es)
  above_others digest name [] long less = tt
  above_others digest name (e ∷ es) long less =
      both_above (digest ++ name) (holdings_under told e.0 e.1) (flat_map (λ e. holdings_under told e.0 e.1) es) (above_other digest e.0 name (finite.entries e.1) long.0 less.0)
      (above_others digest name es long.1 less.1)

  all_above : (digest : List ℕ) (fs : List (List ℕ × Option (List ℕ))) (es : List (List ℕ × Links)) → AllByRecursion (λ e. length digest ≡ length e.0) es
      → AllByRecursion (λ y. byte_cmp digest y ≡ Less) (map (λ e. e.0) es)
      → AllByRecursion (λ x. Above (key_of x) (flat_map (λ e. holdings_under told e.0 e.1) es)) (map (λ e. holding_of told digest e.0) fs)
  all_above digest [] es long less = tt
  all_above digest (f ∷ fs) es long less = (above_others digest f.0 es long less, all_above digest fs es long less)

  all_long : (long : ℕ) (digest : List ℕ) (es : List (List ℕ × Links)) → length digest ≡ long → AllByRecursion (λ e. length e.0 ≡ long) es → AllByRecursion (λ e. length digest ≡ length e.0) es
  all_long long digest [] is h = tt
  all_long long digest (e ∷ es) is h = (is ∙ sym h.0, all_long long digest es is h.1)

  pub sorted_among : (long : ℕ) (es : List (List ℕ × Links)) → AllByRecursion (λ e. length e.0 ≡ long) es → IsStrictlySortedBy byte_cmp (map (λ e. e.0) es)
      → IsStrictlySortedBy byte_cmp (map key_of (flat_map (λ e. holdings_under told e.0 e.1) es))
  unfolding IsStrictlySortedBy
  sorted_among long [] is h = tt
  sorted_among long (e ∷ es) is h =
      both_sorted (holdings_under told e.0 e.1) (flat_map (λ e. holdings_under told e.0 e.1) es)
      (sorted_under e.0 (finite.entries e.1) (keys_ascend byte_cmp (finite.entries e.1) (entries_sorted e.1))) (sorted_among long es is.1 h.1)
      (all_above e.0 (finite.entries e.1) es (all_long long e.0 es is.0 is.1) h.0)

pub own_long : (number : ℕ) (kept : Kept) → AllOwn number kept → (es : List (List ℕ × Links)) → AllFound byte_order (finite.entries kept) es → AllByRecursion (λ e. length e.0 ≡ 32) es
own_long number kept own [] found = tt
own_long number kept own (e ∷ es) found = ((own e.0 (ap is_some (get-entries kept e.0 ∙ found.0))).0.long, own_long number kept own es found.1)

-- ---- all of it

pub all_held : (number : ℕ) (told : Objects) (kept : Kept) → AllOwn number kept → AllStand (Some told) number kept → AreAllHeld number (held told) (holdings_of told kept)
all_held number told kept own stand =
    let sorted = keys_ascend byte_cmp (finite.entries kept) (entries_sorted kept) in
    let found = all_found byte_order (finite.entries kept) sorted in
    record {
      listed = λ holding has.
          All-contains (IsHeld number (held told)) (holdings_of told kept) holding
          (All-from_recursion (IsHeld number (held told)) (holdings_of told kept) (listed_among number told kept own stand (finite.entries kept) found)) has;
      all = λ digest name mine is some.
          (holding_of told digest name, listed_all told kept digest name (who_holds told digest (links_at kept digest) (stand digest mine) name is some), refl, refl);
      ordered = sorted_among told 32 (finite.entries kept) (own_long number kept own (finite.entries kept) found) sorted;
    }

-- what a list of all holders says, where the store tells
pub told_held : {T E : Type 0} (objects : Option Objects) (number : ℕ) (kept : Kept) (items : T → List Holding) (r : Result T E) → AllOwn number kept → AllStand objects number kept
    → IfOk r (λ list. IfSome objects (λ told. items list ≡ holdings_of told kept)) → IfOk r (λ list. IfSome objects (λ told. AreAllHeld number (held told) (items list)))
told_held None number kept items (Ok list) own stand is = tt
told_held (Some told) number kept items (Ok list) own stand is = subst (AreAllHeld number (held told)) (sym is) (all_held number told kept own stand)
told_held objects number kept items (Err e) own stand is = tt

-- each digest that is kept stands
pub kept_stand : (objects : Option Objects) (number : ℕ) (kept : Kept) → AllOwn number kept → AllStand objects number kept → (digest : List ℕ) → IsSome (finite.get kept digest) → StandsAt objects kept digest
kept_stand objects number kept own stand digest some = stand digest (own digest some)

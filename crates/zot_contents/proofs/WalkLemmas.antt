-- A walk through the paths of a store: which digests of a shard it has found, up to a path.
use Rattle.std.proofs.Common.{◌≡◌, ◌≢◌, ◌==◌, ℕ, ◌+◌, ◌<◌, ◌≤◌, ◌^◌, inl, inr, Bool, true, false, cond, List, [], ◌∷◌, length, Option, Some, None, IfSome, IsNone, IsSome, is_some, refl, sym, ap, subst, ◌∙◌, arith}
use Rattle.std.specs.Prelude.{unwrap_or}
use Rattle.std.specs.FinMap as map
use Rattle.std.specs.FinMap.{get-empty}
use Rattle.std.specs.Ordering.{ordering_reverse}
use Rattle.std.specs.declared.cmp.Ordering.{Ordering}
use Rattle.std.specs.declared.cmp.Ordering.TheVariants.{Equal, Greater, Less}
use Rattle.std.proofs.lemmas.Bool.{eq-eqb, eqb-true, true≢false}
use Rattle.zot_digest.specs.ByteMap.{byte_cmp}
use Rattle.zot_digest.specs.Digest.{IsDigest}
use Rattle.zot_maps.proofs.Maps.{byte_order, get_elsewhere, get_here}
use Rattle.zot_names.specs.Name.{IsName}
use Rattle.zot_outside.proofs.ListingLemmas.{length-paths_after, paths_after-next}
use Rattle.zot_outside.specs.Objects.{Follows, IsLast, IsNext, Objects, path_cmp, paths_after}
use Rattle.zot_links.proofs.PathLemmas.{object_path_one, paths_apart, record_path_one}
use Rattle.zot_links.proofs.StandLemmas.{decide}
use Rattle.zot_links.specs.Meaning.{Links, object_at, object_path, record_path}
use Rattle.zot_contents.specs.Opening.{AreFound, noted, with_holder, with_place}
use Rattle.zot_contents.specs.Places.{IsPlace, IsPlaceOf, path_of}
use Rattle.zot_contents.specs.Shards.{AllOwn, IsOfShard, Kept, links_at, shard_of}
use Rattle.zot_contents.specs.declared.places.Place.{Place}

-- ---- paths

-- paths of which neither is less are one
same_path : (path other : List ℕ) → path_cmp path other ≢ Less → path_cmp other path ≢ Less → path ≡ other
same_path path other above less = split (path_cmp path other) refl above where
  split : (o : Ordering) → path_cmp path other ≡ o → o ≢ Less → path ≡ other
  split Less is bad = absurd (bad refl)
  split Equal is bad = byte_order.antisymmetric path other is
  split Greater is bad = absurd (less (byte_order.total.antisymm other path ∙ ap ordering_reverse is))

-- a path of an object is greater than the empty path
after_nothing : (digest : List ℕ) (name : Option (List ℕ)) → path_cmp [] (path_of digest name) ≡ Less
unfolding object_path record_path
after_nothing digest None = refl
after_nothing digest (Some []) = refl
after_nothing digest (Some (c ∷ name)) = refl

-- a path is of one digest, and of one repository
one_place : (path digest other : List ℕ) (name beside : Option (List ℕ)) → IsPlace path digest name → IsPlace path other beside → (digest ≡ other) × (name ≡ beside)
one_place path digest other None None is also = (record_path_one digest other is.is_digest also.is_digest (sym is.spelled ∙ also.spelled), refl)
one_place path digest other None (Some beside) is also = absurd (paths_apart other digest beside also.is_digest is.is_digest (sym also.spelled ∙ is.spelled))
one_place path digest other (Some name) None is also = absurd (paths_apart digest other name is.is_digest also.is_digest (sym is.spelled ∙ also.spelled))
one_place path digest other (Some name) (Some beside) is also =
    let one = object_path_one digest other name beside is.is_digest also.is_digest (sym is.spelled ∙ also.spelled) in (one.1, ap Some one.0)

-- ---- one more object

-- an object is noted
abbrev Has : Kept → List ℕ → Option (List ℕ) → Type 0
Has kept digest None = IsSome (map.get kept digest)
Has kept digest (Some name) = IsSome (map.get (links_at kept digest) name)

with_keeps : (links : Links) (holder : Option (List ℕ)) (name : List ℕ) → IsSome (map.get links name) → IsSome (map.get (with_holder links holder) name)
with_keeps links None name has = has
with_keeps links (Some holder) name has = elim (decide name holder) [
  | inl same ↦ ap (λ n. is_some (map.get (map.insert links holder None) n)) same ∙ ap is_some (get_here byte_order links holder None)
  | inr apart ↦ ap is_some (get_elsewhere byte_order links holder None name apart) ∙ has
]

with_only : (links : Links) (holder : Option (List ℕ)) (name : List ℕ) (P : List ℕ → Type 0) → IfSome holder P → (IsSome (map.get links name) → P name) → IsSome (map.get (with_holder links holder) name) → P name
with_only links None name P mine old has = old has
with_only links (Some holder) name P mine old has = elim (decide name holder) [
  | inl same ↦ subst P (sym same) mine
  | inr apart ↦ old (ap is_some (sym (get_elsewhere byte_order links holder None name apart)) ∙ has)
]

module _ (kept : Kept) (place : Place) where
  abbrev made : Kept
  made = with_place kept place

  digest_here : map.get made place.digest ≡ Some (with_holder (links_at kept place.digest) place.name)
  digest_here = get_here byte_order kept place.digest (with_holder (links_at kept place.digest) place.name)

  links_here : links_at made place.digest ≡ with_holder (links_at kept place.digest) place.name
  links_here = ap (λ (o : Option Links). unwrap_or o map.empty) digest_here

  digest_beside : (digest : List ℕ) → digest ≢ place.digest → map.get made digest ≡ map.get kept digest
  digest_beside digest apart = get_elsewhere byte_order kept place.digest (with_holder (links_at kept place.digest) place.name) digest apart

  links_beside : (digest : List ℕ) → digest ≢ place.digest → links_at made digest ≡ links_at kept digest
  links_beside digest apart = ap (λ (o : Option Links). unwrap_or o map.empty) (digest_beside digest apart)

  here_by : (name : Option (List ℕ)) → place.name ≡ name → Has made place.digest name
  here_by None is = ap is_some digest_here
  here_by (Some name) is =
      ap (λ l. is_some (map.get l name)) (links_here ∙ ap (with_holder (links_at kept place.digest)) is) ∙ ap is_some (get_here byte_order (links_at kept place.digest) name None)

  stays_by : (digest : List ℕ) (name : Option (List ℕ)) → Has kept digest name → Has made digest name
  stays_by digest None has = elim (decide digest place.digest) [
    | inl same ↦ ap (λ d. is_some (map.get made d)) same ∙ ap is_some digest_here
    | inr apart ↦ ap is_some (digest_beside digest apart) ∙ has
  ]
  stays_by digest (Some name) has = elim (decide digest place.digest) [
    | inl same ↦
        ap (λ d. is_some (map.get (links_at made d) name)) same ∙ ap (λ l. is_some (map.get l name)) links_here
        ∙ with_keeps (links_at kept place.digest) place.name name (ap (λ d. is_some (map.get (links_at kept d) name)) (sym same) ∙ has)
    | inr apart ↦ ap (λ l. is_some (map.get l name)) (links_beside digest apart) ∙ has
  ]

  -- a fact of the holders is one of all, where it is of this one
  only_by : (P : List ℕ → List ℕ → Type 0) → IfSome place.name (P place.digest) → ((digest name : List ℕ) → Has kept digest (Some name) → P digest name)
      → (digest name : List ℕ) → Has made digest (Some name) → P digest name
  only_by P mine old digest name has = elim (decide digest place.digest) [
    | inl same ↦
        subst (λ d. P d name) (sym same)
        (with_only (links_at kept place.digest) place.name name (P place.digest) mine (old place.digest name)
        (ap (λ l. is_some (map.get l name)) (sym links_here) ∙ ap (λ d. is_some (map.get (links_at made d) name)) (sym same) ∙ has))
    | inr apart ↦ old digest name (ap (λ l. is_some (map.get l name)) (sym (links_beside digest apart)) ∙ has)
  ]

  own_by : (number : ℕ) → IsOfShard number place.digest → AllOwn number kept → AllOwn number made
  own_by number is own digest has = elim (decide digest place.digest) [
    | inl same ↦ subst (IsOfShard number) (sym same) is
    | inr apart ↦ own digest (ap is_some (sym (digest_beside digest apart)) ∙ has)
  ]

-- what is noted is of the shard
own_chosen : (number : ℕ) (kept : Kept) (place : Place) (b : Bool) → (shard_of place.digest == number) ≡ b → IsDigest place.digest → AllOwn number kept
    → AllOwn number (cond b (with_place kept place) kept)
own_chosen number kept place true same is own = own_by kept place number (is, eqb-true (shard_of place.digest) number same) own
own_chosen number kept place false apart is own = own

pub own_none : (number : ℕ) (kept : Kept) → kept ≡ map.empty → AllOwn number kept
own_none number kept none digest has = absurd (true≢false (sym has ∙ ap is_some (ap (λ (m : Kept). map.get m digest) none ∙ get-empty byte_cmp digest)))

pub own_noted : (number : ℕ) (path : List ℕ) (kept : Kept) (place : Option Place) → IsPlaceOf path place → AllOwn number kept → AllOwn number (noted number kept place)
own_noted number path kept None is own = own
own_noted number path kept (Some place) is own = own_chosen number kept place (shard_of place.digest == number) refl is.is_digest own

-- ---- the digests up to a path

module _ (objects : Objects) (number : ℕ) where
  -- the objects up to a path are noted, and those that are noted are there
  pub record UpTo (last : List ℕ) (kept : Kept) : Type 0 where
    all : (digest : List ℕ) (name : Option (List ℕ)) → IsOfShard number digest → IfSome name IsName → IsSome (map.get objects (path_of digest name)) → path_cmp last (path_of digest name) ≢ Less
        → Has kept digest name
    only : (digest name : List ℕ) → Has kept digest (Some name) → IsName name × IsSome (map.get objects (object_path digest name))

  none_noted : (digest name : List ℕ) → ¬ Has map.empty digest (Some name)
  none_noted digest name has =
      let none : map.get (links_at map.empty digest) name ≡ None =
      ap (λ (o : Option Links). map.get (unwrap_or o map.empty) name) (get-empty byte_cmp digest) ∙ get-empty byte_cmp name in
      cc (sym has ∙ ap is_some none)

  at_first : UpTo [] map.empty
  at_first = record { all = λ digest name own named there passed. absurd (passed (after_nothing digest name)); only = λ digest name has. absurd (none_noted digest name has) }

  -- the next path's object is noted, if it is of the shard
  module _ (last path : List ℕ) (next : IsNext objects last path) (kept : Kept) (h : UpTo last kept) where
    passed_now : (new : Kept) → ((digest : List ℕ) (name : Option (List ℕ)) → IsOfShard number digest → IsPlace path digest name → Has new digest name)
        → ((digest : List ℕ) (name : Option (List ℕ)) → Has kept digest name → Has new digest name)
        → (digest : List ℕ) (name : Option (List ℕ)) → IsOfShard number digest → IfSome name IsName → IsSome (map.get objects (path_of digest name)) → path_cmp path (path_of digest name) ≢ Less
        → Has new digest name
    passed_now new here stays digest name own named there passed = split (path_cmp last (path_of digest name)) refl where
      split : (o : Ordering) → path_cmp last (path_of digest name) ≡ o → Has new digest name
      split Less is = here digest name own (record { is_digest = own.0; named = named; spelled = same_path path (path_of digest name) passed (next.least (path_of digest name) there is) })
      split Equal is = stays digest name (h.all digest name own named there (λ less. cc (sym is ∙ less)))
      split Greater is = stays digest name (h.all digest name own named there (λ less. cc (sym is ∙ less)))

    none_more : ((digest : List ℕ) (name : Option (List ℕ)) → IsOfShard number digest → ¬ IsPlace path digest name) → UpTo path kept
    none_more none = record { all = passed_now kept (λ digest name own is. absurd (none digest name own is)) (λ digest name has. has); only = h.only }

    its_object : (digest : List ℕ) (name : Option (List ℕ)) → IsPlace path digest name → IfSome name (λ n. IsName n × IsSome (map.get objects (object_path digest n)))
    its_object digest None is = tt
    its_object digest (Some name) is = (is.named, subst (λ p. IsSome (map.get objects p)) is.spelled next.held)

    one_more : (place : Place) → IsPlace path place.digest place.name → UpTo path (with_place kept place)
    one_more place is = record {
      all = passed_now (with_place kept place)
          (λ digest name own also.
          let one = one_place path place.digest digest place.name name is also in
          subst (λ d. Has (with_place kept place) d name) one.0 (here_by kept place name one.1))
          (stays_by kept place);
      only = only_by kept place (λ digest name. IsName name × IsSome (map.get objects (object_path digest name))) (its_object place.digest place.name is) h.only;
    }

    chosen : (place : Place) (b : Bool) → (shard_of place.digest == number) ≡ b → IsPlace path place.digest place.name → UpTo path (cond b (with_place kept place) kept)
    chosen place true same is = one_more place is
    chosen place false apart is =
        none_more (λ digest name own also.
        let one = one_place path place.digest digest place.name name is also in
        true≢false (sym (eq-eqb (shard_of place.digest) number (ap shard_of one.0 ∙ own.1)) ∙ apart))

    noted_more : (place : Option Place) → IsPlaceOf path place → UpTo path (noted number kept place)
    noted_more None is = none_more (λ digest name own. is digest name)
    noted_more (Some place) is = chosen place (shard_of place.digest == number) refl is

  -- no path is left
  at_last : (last : List ℕ) (kept : Kept) → IsLast objects last → AllOwn number kept → UpTo last kept → AreFound objects number kept
  unfolding object_at
  at_last last kept end own h = record {
    own = own;
    holders = λ digest is name named. (λ there. h.all digest (Some name) is named there (end (object_path digest name) there), λ has. (h.only digest name has).1);
    named = λ digest name has. (h.only digest name has).0;
    records = λ digest is there. h.all digest None is tt there (end (record_path digest) there);
  }

-- ---- the same of a store that may tell its objects, with how many paths are left at most

module _ (number : ℕ) where
  abbrev pub Walked : Option Objects → List ℕ → Kept → ℕ → Type 0
  Walked objects last kept asked = IfSome objects (λ told. UpTo told number last kept × (asked + length (paths_after told last) < 2 ^ 63))

  pub walked_first : (objects : Option Objects) (last : List ℕ) (kept : Kept) → IfSome objects (λ told. map.len told < 2 ^ 63) → last ≡ [] → kept ≡ map.empty → Walked objects last kept 0
  walked_first None last kept few is none = tt
  walked_first (Some told) last kept few is none =
      (subst (λ p. UpTo told number p kept) (sym is) (subst (UpTo told number []) (sym none) (at_first told number)), omega (arith, length-paths_after told last, few))

  walked_by : (told : Objects) (last path : List ℕ) (kept new : Kept) (asked : ℕ) → IsNext told last path → UpTo told number path new → Walked (Some told) last kept asked → Walked (Some told) path new (asked + 1)
  walked_by told last path kept new asked next h room = (h, omega (arith, room.1, ap length (paths_after-next told last path next)))

  pub walked_on : (objects : Option Objects) (last path now : List ℕ) (kept new : Kept) (place : Option Place) (asked : ℕ) → Follows objects last (Some path) → IsPlaceOf path place → now ≡ path
      → new ≡ noted number kept place → Walked objects last kept asked → Walked objects now new (asked + 1)
  walked_on None last path now kept new place asked next is same noted h = tt
  walked_on (Some told) last path now kept new place asked next is same noted h =
      subst (λ p. Walked (Some told) p new (asked + 1)) (sym same) (subst (λ k. Walked (Some told) path k (asked + 1)) (sym noted)
      (walked_by told last path kept _ asked next (noted_more told number last path next kept h.0 place is) h))

  pub walked_last : (objects : Option Objects) (last : List ℕ) (kept : Kept) (asked : ℕ) → Follows objects last None → AllOwn number kept → Walked objects last kept asked
      → IfSome objects (λ told. AreFound told number kept)
  walked_last None last kept asked end own h = tt
  walked_last (Some told) last kept asked end own h = at_last told number last kept end own h.0

  -- a store that tells its objects has no more paths
  pub walked_out : (objects : Option Objects) (last : List ℕ) (kept : Kept) (asked : ℕ) → 2 ^ 63 ≤ asked → Walked objects last kept asked → IsNone objects
  walked_out None last kept asked many h = refl
  walked_out (Some told) last kept asked many h = absurd (omega (arith, many, h.1))

-- A walk through the paths of a row's part: which names it has found, up to a path.
use Rattle.std.proofs.Common.{◌≡◌, ◌≢◌, ℕ, ◌+◌, ◌<◌, ◌≤◌, ◌^◌, List, [], ◌∷◌, ◌++◌, length, map, Contains, Option, Some, None, IfSome, IsNone, IsSome, append-nil, refl, sym, ap, subst, ◌∙◌, arith}
use Rattle.std.specs.Prelude.{codes, option_to_list}
use Rattle.std.specs.FinMap as finite
use Rattle.std.specs.Str.Pattern.{FindsTextSuffix, StripsSuffix}
use Rattle.std.specs.List.{AllByRecursion}
use Rattle.std.specs.List.Sorted.{IsStrictlySortedBy}
use Rattle.std.specs.Ordering.{ordering_reverse}
use Rattle.std.specs.declared.cmp.Ordering.{Ordering}
use Rattle.std.specs.declared.cmp.Ordering.TheVariants.{Equal, Greater, Less}
use Rattle.std.proofs.lemmas.Cmp.{tied_itself}
use Rattle.std.proofs.lemmas.List.{append_cancel_right}
use Rattle.std.proofs.lemmas.List.Elements.{Contains-append_left, Contains-append_right}
use Rattle.zot_maps.proofs.Maps.{byte_order}
use Rattle.zot_outside.proofs.ListingLemmas.{length-paths_after, paths_after-next}
use Rattle.zot_outside.specs.Objects.{Follows, IsLast, IsNext, Objects, path_cmp, paths_after}
use Rattle.zot_layout.specs.Paths.{marker_end, marker_path}
use Rattle.zot_layout.specs.Rows.{AreMarked}
use Rattle.zot_layout.specs.Walks.{IsMarkerOf}
use Rattle.zot_layout.proofs.BackLemmas.{all_joined, all_of}

-- ---- paths in their order

not_above : (path other : List ℕ) → path_cmp other path ≡ Less → path_cmp path other ≢ Less
not_above path other less is = cc (sym (byte_order.total.antisymm path other ∙ ap ordering_reverse less) ∙ is)

not_above_itself : (path : List ℕ) → path_cmp path path ≢ Less
not_above_itself path is = cc (sym (tied_itself byte_order.total path) ∙ is)

-- a path that isn't greater than one is below each that is
below_next : (last old path : List ℕ) → path_cmp last old ≢ Less → path_cmp last path ≡ Less → path_cmp old path ≡ Less
below_next last old path passed above = split (path_cmp last old) refl passed where
  split : (o : Ordering) → path_cmp last old ≡ o → o ≢ Less → path_cmp old path ≡ Less
  split Less is above_it = absurd (above_it refl)
  split Equal is above_it = ap (λ p. path_cmp p path) (sym (byte_order.antisymmetric last old is)) ∙ above
  split Greater is above_it = byte_order.total.trans old last path (byte_order.total.antisymm old last ∙ ap ordering_reverse is) above

-- a path that is not greater than another one, and not less, is that one
same_path : (path other : List ℕ) → path_cmp path other ≢ Less → path_cmp other path ≢ Less → path ≡ other
same_path path other above less = split (path_cmp path other) refl above where
  split : (o : Ordering) → path_cmp path other ≡ o → o ≢ Less → path ≡ other
  split Less is bad = absurd (bad refl)
  split Equal is bad = byte_order.antisymmetric path other is
  split Greater is bad = absurd (less (byte_order.total.antisymm other path ∙ ap ordering_reverse is))

-- each marker's path is greater than the empty path
after_nothing : (name : List ℕ) → path_cmp [] (marker_path name) ≡ Less
unfolding marker_end
after_nothing [] = refl
after_nothing (c ∷ cs) = refl

pub one_marker : (name other : List ℕ) → marker_path name ≡ marker_path other → name ≡ other
one_marker name other same = append_cancel_right name other marker_end same

-- ---- one more, in order

all_behind : (low : List ℕ) (names : List (List ℕ)) (name : List ℕ) → AllByRecursion (λ y. path_cmp low y ≡ Less) (map marker_path names) → path_cmp low (marker_path name) ≡ Less
    → AllByRecursion (λ y. path_cmp low y ≡ Less) (map marker_path (names ++ name ∷ []))
all_behind low [] name h less = (less, tt)
all_behind low (n ∷ names) name h less = (h.0, all_behind low names name h.1 less)

ascend_more : (names : List (List ℕ)) (name : List ℕ) → IsStrictlySortedBy path_cmp (map marker_path names) → AllByRecursion (λ n. path_cmp (marker_path n) (marker_path name) ≡ Less) names
    → IsStrictlySortedBy path_cmp (map marker_path (names ++ name ∷ []))
unfolding IsStrictlySortedBy
ascend_more [] name h less = (tt, tt)
ascend_more (n ∷ names) name h less = (all_behind (marker_path n) names name h.0 less.0, ascend_more names name h.1 less.1)

-- ---- the names up to a path

module _ (objects : Objects) (IsOwn : List ℕ → Type 0) where
  abbrev IsThere : List ℕ → Type 0
  IsThere name = IsSome (finite.get objects (marker_path name))

  pub record UpTo (last : List ℕ) (names : List (List ℕ)) : Type 0 where
    own : AllByRecursion IsOwn names
    marked : AllByRecursion IsThere names
    all : (name : List ℕ) → IsOwn name → IsThere name → path_cmp last (marker_path name) ≢ Less → Contains names name
    ascend : IsStrictlySortedBy path_cmp (map marker_path names)
    passed : AllByRecursion (λ name. path_cmp last (marker_path name) ≢ Less) names

  pub at_first : UpTo [] []
  unfolding IsStrictlySortedBy
  at_first = record { own = tt; marked = tt; all = λ name own there passed. absurd (passed (after_nothing name)); ascend = tt; passed = tt }

  -- whether a name is an old one, or the next path is that of its marker
  next_name : (last path name : List ℕ) → IsNext objects last path → IsThere name → path_cmp path (marker_path name) ≢ Less → path_cmp last (marker_path name) ≡ Less → path ≡ marker_path name
  next_name last path name next there passed above = same_path path (marker_path name) passed (next.least (marker_path name) there above)

  still_passed : (last path : List ℕ) → path_cmp last path ≡ Less → (names : List (List ℕ)) → AllByRecursion (λ name. path_cmp last (marker_path name) ≢ Less) names → AllByRecursion (λ name. path_cmp path (marker_path name) ≢ Less) names
  still_passed last path above names h =
      all_of (λ name. path_cmp last (marker_path name) ≢ Less) (λ name. path_cmp path (marker_path name) ≢ Less)
      (λ name passed. not_above path (marker_path name) (below_next last (marker_path name) path passed above)) names h

  -- the next path is no marker's
  pub none_more : (last path : List ℕ) (names : List (List ℕ)) → IsNext objects last path → IsMarkerOf IsOwn path None → UpTo last names → UpTo path names
  none_more last path names next none h = record {
    own = h.own;
    marked = h.marked;
    all = λ name own there passed. split name own there passed (path_cmp last (marker_path name)) refl;
    ascend = h.ascend;
    passed = still_passed last path next.above names h.passed;
  } where
    split : (name : List ℕ) → IsOwn name → IsThere name → path_cmp path (marker_path name) ≢ Less → (o : Ordering) → path_cmp last (marker_path name) ≡ o → Contains names name
    split name own there passed Less is = absurd (none name own (next_name last path name next there passed is))
    split name own there passed Equal is = h.all name own there (λ less. cc (sym is ∙ less))
    split name own there passed Greater is = h.all name own there (λ less. cc (sym is ∙ less))

  -- or it is
  pub name_more : (last path : List ℕ) (names : List (List ℕ)) (found : List ℕ) → IsNext objects last path → IsMarkerOf IsOwn path (Some found) → UpTo last names → UpTo path (names ++ found ∷ [])
  name_more last path names found next is h = record {
    own = all_joined IsOwn names (found ∷ []) h.own (is.0, tt);
    marked = all_joined IsThere names (found ∷ []) h.marked (subst (λ p. IsSome (finite.get objects p)) is.1 next.held, tt);
    all = λ name own there passed. split name own there passed (path_cmp last (marker_path name)) refl;
    ascend = ascend_more names found h.ascend
        (all_of (λ name. path_cmp last (marker_path name) ≢ Less) (λ name. path_cmp (marker_path name) (marker_path found) ≡ Less)
        (λ name passed. below_next last (marker_path name) (marker_path found) passed (subst (λ p. path_cmp last p ≡ Less) is.1 next.above)) names h.passed);
    passed = all_joined (λ name. path_cmp path (marker_path name) ≢ Less) names (found ∷ []) (still_passed last path next.above names h.passed)
        (subst (λ p. path_cmp path p ≢ Less) is.1 (not_above_itself path), tt);
  } where
    split : (name : List ℕ) → IsOwn name → IsThere name → path_cmp path (marker_path name) ≢ Less → (o : Ordering) → path_cmp last (marker_path name) ≡ o → Contains (names ++ found ∷ []) name
    split name own there passed Less at =
        subst (Contains (names ++ found ∷ [])) (one_marker found name (sym is.1 ∙ next_name last path name next there passed at)) (Contains-append_right names (found ∷ []) found (0, omega arith, refl))
    split name own there passed Equal at = Contains-append_left names (found ∷ []) name (h.all name own there (λ less. cc (sym at ∙ less)))
    split name own there passed Greater at = Contains-append_left names (found ∷ []) name (h.all name own there (λ less. cc (sym at ∙ less)))

  pub name_or_none : (last path : List ℕ) (names : List (List ℕ)) (found : Option (List ℕ)) → IsNext objects last path → IsMarkerOf IsOwn path found → UpTo last names → UpTo path (names ++ option_to_list found)
  name_or_none last path names None next is h = subst (UpTo path) (sym (append-nil names)) (none_more last path names next is h)
  name_or_none last path names (Some found) next is h = name_more last path names found next is h

  -- no path is left
  pub at_last : (last : List ℕ) (names : List (List ℕ)) → IsLast objects last → UpTo last names → AreMarked objects IsOwn names
  at_last last names end h = record { own = h.own; marked = h.marked; all = λ name own there. h.all name own there (end (marker_path name) there); ascend = h.ascend }

-- ---- the same of a store that may tell its objects, with how many paths are left at most

module _ (IsOwn : List ℕ → Type 0) where
  abbrev pub Walked : Option Objects → List ℕ → List (List ℕ) → ℕ → Type 0
  Walked objects last names asked = IfSome objects (λ told. UpTo told IsOwn last names × (asked + length (paths_after told last) < 2 ^ 63))

  pub walked_first : (objects : Option Objects) (last : List ℕ) (names : List (List ℕ)) → IfSome objects (λ told. finite.len told < 2 ^ 63) → last ≡ [] → names ≡ [] → Walked objects last names 0
  walked_first None last names few is none = tt
  walked_first (Some told) last names few is none =
      (subst (λ p. UpTo told IsOwn p names) (sym is) (subst (UpTo told IsOwn []) (sym none) (at_first told IsOwn)), omega (arith, length-paths_after told last, few))

  walked_by : (told : Objects) (last path : List ℕ) (names new : List (List ℕ)) (asked : ℕ) → IsNext told last path → UpTo told IsOwn path new → Walked (Some told) last names asked → Walked (Some told) path new (asked + 1)
  walked_by told last path names new asked next h room = (h, omega (arith, room.1, ap length (paths_after-next told last path next)))

  pub walked_on : (objects : Option Objects) (last path now : List ℕ) (names new : List (List ℕ)) (found : Option (List ℕ)) (asked : ℕ) → Follows objects last (Some path) → IsMarkerOf IsOwn path found → now ≡ path → new ≡ names ++ option_to_list found → Walked objects last names asked
      → Walked objects now new (asked + 1)
  walked_on None last path now names new found asked next one is same h = tt
  walked_on (Some told) last path now names new found asked next one is same h =
      subst (λ p. Walked (Some told) p new (asked + 1)) (sym is) (subst (λ ns. Walked (Some told) path ns (asked + 1)) (sym same)
      (walked_by told last path names (names ++ option_to_list found) asked next (name_or_none told IsOwn last path names found next one h.0) h))

  pub walked_last : (objects : Option Objects) (last : List ℕ) (names : List (List ℕ)) (asked : ℕ) → Follows objects last None → Walked objects last names asked → IfSome objects (λ told. AreMarked told IsOwn names)
  walked_last None last names asked end h = tt
  walked_last (Some told) last names asked end h = at_last told IsOwn last names end h.0

  -- a store that tells its objects has no more paths
  pub walked_out : (objects : Option Objects) (last : List ℕ) (names : List (List ℕ)) (asked : ℕ) → 2 ^ 63 ≤ asked → Walked objects last names asked → IsNone objects
  walked_out None last names asked many h = refl
  walked_out (Some told) last names asked many h = absurd (omega (arith, many, h.1))

-- ---- the path of a marker

-- a path with another end
pub other_end : (path : List ℕ) → ((front : List ℕ) → path ≢ front ++ codes "/oci-layout") → (name : List ℕ) → path ≢ marker_path name
unfolding marker_end
other_end path apart name same = apart name same

-- a path with this end
pub cut_end : (path text : List ℕ) → StripsSuffix (FindsTextSuffix (codes "/oci-layout")) path text → path ≡ marker_path text
unfolding marker_end
cut_end path text h = h.1.1 ∙ ap (λ front. front ++ codes "/oci-layout") (sym h.2)

-- the name of a path is the text before the end
pub named_so : (path text name : List ℕ) → path ≡ marker_path text → path ≡ marker_path name → name ≡ text
named_so path text name is same = one_marker name text (sym same ∙ is)

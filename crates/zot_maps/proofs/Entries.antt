-- The entries of a map, and of a tree, in the order of their keys.
use Rattle.std.proofs.Common.{◌≡◌, Bool, true, false, cond, List, [], ◌∷◌, map, Some, refl, sym, ap, subst, ◌∙◌}
use Rattle.std.specs.Prelude.{◌||◌, ◌&&◌, T, IsSome}
use Rattle.std.specs.BTreeMap.{is_at}
use Rattle.std.specs.FinMap as finite
use Rattle.std.specs.FinMap.{entries-from_sorted, entries_sorted, get-entries, get-from_entries, get-from_sorted}
use Rattle.std.specs.FinMap.Entries.{below_all, find, is_sorted}
use Rattle.std.specs.List.{AllByRecursion, list_any}
use Rattle.std.specs.List.Sorted.{IsStrictlySortedBy}
use Rattle.std.specs.Map.{KeepsOthers, keys_of, lookup}
use Rattle.std.specs.Ordering.{eq_by_cmp, is_eq, is_lt}
use Rattle.std.specs.declared.cmp.Ordering.{Ordering}
use Rattle.std.specs.declared.cmp.Ordering.TheVariants.{Equal, Greater, Less}
use Rattle.std.proofs.lemmas.Bool.{true≢false}
use Rattle.zot_maps.specs.Order.{IsKeyOrder}
use Rattle.zot_maps.proofs.Maps.{entries-insert, same_key, same_map, tied_keys}

pub is_less : (o : Ordering) → T (is_lt o) → o ≡ Less
is_less Less h = refl
is_less Equal h = absurd h
is_less Greater h = absurd h

pub first : (a b : Bool) → T (a && b) → T a
first true b h = tt
first false b h = absurd h

pub second : (a b : Bool) → T (a && b) → T b
second true b h = h
second false b h = absurd h

both : (a b : Bool) → T a → T b → T (a && b)
both true b h k = k
both false b h k = absurd h

less_test : (o : Ordering) → o ≡ Less → T (is_lt o)
less_test Less is = tt
less_test Equal is = cc is
less_test Greater is = cc is

module _ {K : Type 0} {cmp : K → K → Ordering} (order : IsKeyOrder cmp) where
  -- a key above another one is not that one
  pub apart : (low key : K) → cmp low key ≡ Less → eq_by_cmp cmp key low ≡ false
  apart low key below = split (eq_by_cmp cmp key low) refl where
    split : (b : Bool) → eq_by_cmp cmp key low ≡ b → b ≡ false
    split false is = refl
    split true is =
        absurd (true≢false (sym (same_key order low) ∙ ap (λ k. is_eq (cmp low k)) (sym (tied_keys order key low is)) ∙ ap is_eq below))

-- ---- two ways to say that keys ascend

module _ {K X : Type 0} (cmp : K → K → Ordering) where
  above : (low : K) (es : List (K × X)) → T (below_all cmp low es) → AllByRecursion (λ y. cmp low y ≡ Less) (map (λ e. e.0) es)
  above low [] h = tt
  above low (e ∷ es) h = (is_less (cmp low e.0) (first (is_lt (cmp low e.0)) (below_all cmp low es) h), above low es (second (is_lt (cmp low e.0)) (below_all cmp low es) h))

  -- tested of entries, said of their keys
  pub keys_ascend : (es : List (K × X)) → T (is_sorted cmp es) → IsStrictlySortedBy cmp (map (λ e. e.0) es)
  unfolding IsStrictlySortedBy
  keys_ascend [] h = tt
  keys_ascend (e ∷ es) h = (above e.0 es (first (below_all cmp e.0 es) (is_sorted cmp es) h), keys_ascend es (second (below_all cmp e.0 es) (is_sorted cmp es) h))

  below : (low : K) (es : List (K × X)) → AllByRecursion (λ y. cmp low y ≡ Less) (keys_of es) → T (below_all cmp low es)
  below low [] h = tt
  below low (e ∷ es) h = both (is_lt (cmp low e.0)) (below_all cmp low es) (less_test (cmp low e.0) h.0) (below low es h.1)

  -- said of keys, tested of their entries
  pub entries_ascend : (es : List (K × X)) → IsStrictlySortedBy cmp (keys_of es) → T (is_sorted cmp es)
  unfolding IsStrictlySortedBy
  entries_ascend [] h = tt
  entries_ascend (e ∷ es) h = both (below_all cmp e.0 es) (is_sorted cmp es) (below e.0 es h.0) (entries_ascend es h.1)

  -- the keys of a map ascend
  pub keys_ordered : (m : finite.FinMap cmp X) → IsStrictlySortedBy cmp (finite.keys m)
  keys_ordered m = keys_ascend (finite.entries m) (entries_sorted m)

module _ {K X : Type 0} {cmp : K → K → Ordering} (order : IsKeyOrder cmp) where
  -- the entries of the map that a tree's entries make are these
  pub entries_of_map : (es : List (K × X)) → IsStrictlySortedBy cmp (keys_of es) → finite.entries (finite.from_entries {R = cmp} es) ≡ es
  entries_of_map es h =
      let sorted = entries_ascend cmp es h in
      ap finite.entries (same_map order (finite.from_entries es) (finite.from_sorted es) (λ q. get-from_entries order.total es q ∙ sym (get-from_sorted cmp es q sorted)))
      ∙ entries-from_sorted cmp es sorted

  -- ---- each entry is found under its key

  abbrev pub AllFound : List (K × X) → List (K × X) → Type 0
  AllFound all es = AllByRecursion (λ e. find cmp e.0 all ≡ Some e.1) es

  found_later : (e : K × X) (all es : List (K × X)) → AllByRecursion (λ y. cmp e.0 y ≡ Less) (map (λ x. x.0) es) → AllFound all es → AllFound (e ∷ all) es
  found_later e all [] below h = tt
  found_later e all (x ∷ es) below h =
      (ap (λ b. cond b (Some e.1) (find cmp x.0 all)) (apart order e.0 x.0 below.0) ∙ h.0, found_later e all es below.1 h.1)

  pub all_found : (es : List (K × X)) → IsStrictlySortedBy cmp (map (λ e. e.0) es) → AllFound es es
  unfolding IsStrictlySortedBy
  all_found [] h = tt
  all_found (e ∷ es) h = (ap (λ b. cond b (Some e.1) (find cmp e.0 es)) (same_key order e.0), found_later e es es h.0 (all_found es h.1))

  -- ---- an entry that passes a test

  -- a key that is found among entries above another is not that one
  apart_above : (low key : K) (x : X) (es : List (K × X)) → T (below_all cmp low es) → find cmp key es ≡ Some x → eq_by_cmp cmp key low ≡ false
  apart_above low key x [] h is = cc is
  apart_above low key x (e ∷ es) h is =
      elim (eq_by_cmp cmp key e.0) as (λ b. eq_by_cmp cmp key e.0 ≡ b → cond b (Some e.1) (find cmp key es) ≡ Some x → eq_by_cmp cmp key low ≡ false) [
        | true ↦ λ tied _.
            ap (λ k. eq_by_cmp cmp k low) (tied_keys order key e.0 tied)
            ∙ apart order low e.0 (is_less (cmp low e.0) (first (is_lt (cmp low e.0)) (below_all cmp low es) h))
        | false ↦ λ free k. apart_above low key x es (second (is_lt (cmp low e.0)) (below_all cmp low es) h) k
      ] refl is

  -- the key and the value of one that passes
  record Passing (test : K × X → Bool) (es : List (K × X)) : Type 0 where
    key : K
    value : X
    here : find cmp key es ≡ Some value
    passes : test (key, value) ≡ true

  passing_tail : (test : K × X → Bool) (e : K × X) (es : List (K × X)) → T (is_sorted cmp (e ∷ es)) → Passing test es → Passing test (e ∷ es)
  passing_tail test e es sorted p = record {
    key = p.key;
    value = p.value;
    here = ap (λ b. cond b (Some e.1) (find cmp p.key es)) (apart_above e.0 p.key p.value es (first (below_all cmp e.0 es) (is_sorted cmp es) sorted) p.here) ∙ p.here;
    passes = p.passes;
  }

  passing_either : (test : K × X → Bool) (e : K × X) (es : List (K × X)) (b : Bool) → test e ≡ b → (list_any test es ≡ true → Passing test (e ∷ es)) → (b || list_any test es) ≡ true → Passing test (e ∷ es)
  passing_either test e es true is others h = record { key = e.0; value = e.1; here = ap (λ b. cond b (Some e.1) (find cmp e.0 es)) (same_key order e.0); passes = is }
  passing_either test e es false is others h = others h

  some_passing : (test : K × X → Bool) (es : List (K × X)) → T (is_sorted cmp es) → list_any test es ≡ true → Passing test es
  some_passing test [] sorted h = cc h
  some_passing test (e ∷ es) sorted h =
      passing_either test e es (test e) refl (λ k. passing_tail test e es sorted (some_passing test es (second (below_all cmp e.0 es) (is_sorted cmp es) sorted) k)) h

  -- where some entry of a map passes a test, the value at some key does
  pub any_found : (test : K × X → Bool) (m : finite.FinMap cmp X) → list_any test (finite.entries m) ≡ true → (key : K) × (x : X) × (finite.get m key ≡ Some x) × (test (key, x) ≡ true)
  any_found test m h =
      let p = some_passing test (finite.entries m) (entries_sorted m) h in
      (p.key, p.value, get-entries m p.key ∙ p.here, p.passes)

  -- ---- a value that is written in place

  -- a tree with a value written under a key that it has
  abbrev pub Writes : List (K × X) → List (K × X) → K → X → Type 0
  Writes es fs key value =
      IsSome (lookup (is_at (cmp key)) es)
      → ((q : K) → lookup (is_at (cmp q)) fs ≡ cond (is_at (cmp key) q) (Some value) (lookup (is_at (cmp q)) es))
      × (lookup (is_at (cmp key)) fs ≡ Some value)
      × ((q : K) → is_at (cmp key) q ≡ false → lookup (is_at (cmp q)) fs ≡ lookup (is_at (cmp q)) es)
      × KeepsOthers (eq_by_cmp cmp) (is_at (cmp key)) es fs

  -- the map after it
  pub map_written : (es fs : List (K × X)) (m : finite.FinMap cmp X) (key : K) (found value : X) → finite.from_entries es ≡ m → Some found ≡ lookup (is_at (cmp key)) es
      → Writes es fs key value → finite.from_entries fs ≡ finite.insert m key value
  map_written es fs m key found value is has writes =
      entries-insert order es fs key value (writes (subst (λ o. IsSome o) has refl)).0 ∙ ap (λ n. finite.insert n key value) is

-- Objects given to a part one by one, and parts one by one to a cluster.
use Rattle.std.proofs.Common.{◌≡◌, ℕ, zero, suc, ◌+◌, ◌<◌, inl, inr, List, [], ◌∷◌, ◌++◌, length, get_or, take, map as each, Some, refl, sym, ap, ◌∙◌, subst, cond, arith, length-append, slice_get, IsSomeAnd}
use Rattle.std.specs.FinMap as map
use Rattle.std.specs.FinMap.{get-empty, get-insert}
use Rattle.std.specs.Ordering.{eq_by_cmp}
use Rattle.std.proofs.lemmas.Bool.{cases_lt}
use Rattle.std.proofs.lemmas.List.{map-append, reverse-append, take_more}
use Rattle.zot_fakes.specs.Given.{objects_of}
use Rattle.zot_fakes.specs.Owners.{HasItsOwn, Owns}
use Rattle.zot_fakes.specs.Split.{AreParts, IsPartOf}
use Rattle.zot_fakes.specs.declared.memory_store.MemoryStore.{MemoryStore}
use Rattle.zot_fakes.specs.declared.owners.Part.{Part}
use Rattle.zot_maps.proofs.Maps.{byte_order, get_elsewhere}
use Rattle.zot_outside.specs.Objects.{Objects, path_cmp, with_object}

-- one more object is given
given_more : (given : List (List ℕ × List ℕ)) (object : List ℕ × List ℕ) → objects_of (given ++ object ∷ []) ≡ with_object (objects_of given) object.0 object.1
given_more given object = ap (λ es. map.from_entries {R = path_cmp} es) (reverse-append given (object ∷ []))

module _ {X : Type 0} (object_of : X → List ℕ × List ℕ) where
  abbrev pub all_of : List X → Objects
  all_of xs = objects_of (each object_of xs)

  -- the objects of one element more
  all_more : (xs : List X) (x : X) → all_of (xs ++ x ∷ []) ≡ with_object (all_of xs) (object_of x).0 (object_of x).1
  all_more xs x = ap objects_of (map-append object_of xs (x ∷ [])) ∙ given_more (each object_of xs) (object_of x)

  -- the same of the first elements of a list
  pub all_next : (xs : List X) (i : ℕ) (x : X) → i < length xs → x ≡ get_or xs i x → all_of (take (i + 1) xs) ≡ with_object (all_of (take i xs)) (object_of x).0 (object_of x).1
  all_next xs i x within is = ap all_of (take_more xs i x within ∙ ap (λ y. take i xs ++ y ∷ []) (sym is)) ∙ all_more (take i xs) x

-- no objects
pub owns_none : (part : Part) → HasItsOwn part map.empty map.empty
owns_none part = record { owned = λ path h. refl; others = λ path h. get-empty path_cmp path }

-- an object that the part owns
own_more : (part : Part) (all own : Objects) (path bytes : List ℕ) → Owns part path → HasItsOwn part all own → HasItsOwn part (with_object all path bytes) (with_object own path bytes)
own_more part all own path bytes is h = record {
  owned = λ q owned. get-insert byte_order.total own path bytes q ∙ ap (λ o. cond (eq_by_cmp path_cmp q path) (Some bytes) o) (h.owned q owned) ∙ sym (get-insert byte_order.total all path bytes q);
  others = λ q free. get_elsewhere byte_order own path bytes q (λ same. free (subst (λ p. Owns part p) (sym same) is)) ∙ h.others q free;
}

-- one that it doesn't own
other_more : (part : Part) (all own : Objects) (path bytes : List ℕ) → ¬ Owns part path → HasItsOwn part all own → HasItsOwn part (with_object all path bytes) own
other_more part all own path bytes free h = record {
  owned = λ q owned. h.owned q owned ∙ sym (get_elsewhere byte_order all path bytes q (λ same. free (subst (λ p. Owns part p) same owned)));
  others = h.others;
}

module _ {X : Type 0} (object_of : X → List ℕ × List ℕ) (part : Part) where
  -- the next element is the part's, and a copy of it was added
  pub own_next : (xs own : List X) (i : ℕ) (x copy : X) → i < length xs → x ≡ get_or xs i x → object_of copy ≡ object_of x → Owns part (object_of x).0
      → HasItsOwn part (all_of object_of (take i xs)) (all_of object_of own) → HasItsOwn part (all_of object_of (take (i + 1) xs)) (all_of object_of (own ++ copy ∷ []))
  own_next xs own i x copy within is same owned h =
      let added = all_more object_of own copy ∙ ap (λ (o : List ℕ × List ℕ). with_object (all_of object_of own) o.0 o.1) same in
      subst (λ a. HasItsOwn part a (all_of object_of (own ++ copy ∷ []))) (sym (all_next object_of xs i x within is))
      (subst (λ o. HasItsOwn part (with_object (all_of object_of (take i xs)) (object_of x).0 (object_of x).1) o) (sym added)
      (own_more part (all_of object_of (take i xs)) (all_of object_of own) (object_of x).0 (object_of x).1 owned h))

  -- the next element isn't
  pub other_next : (xs own : List X) (i : ℕ) (x : X) → i < length xs → x ≡ get_or xs i x → ¬ Owns part (object_of x).0
      → HasItsOwn part (all_of object_of (take i xs)) (all_of object_of own) → HasItsOwn part (all_of object_of (take (i + 1) xs)) (all_of object_of own)
  other_next xs own i x within is free h =
      subst (λ a. HasItsOwn part a (all_of object_of own)) (sym (all_next object_of xs i x within is))
      (other_more part (all_of object_of (take i xs)) (all_of object_of own) (object_of x).0 (object_of x).1 free h)

get_front : {X : Type 0} (xs : List X) (x : X) (n : ℕ) → n < length xs → slice_get (xs ++ x ∷ []) n ≡ slice_get xs n
get_front [] x n h = absurd (omega (arith, h))
get_front (y ∷ xs) x zero h = refl
get_front (y ∷ xs) x (suc n) h = get_front xs x n (omega (arith, h))

get_last : {X : Type 0} (xs : List X) (x : X) → slice_get (xs ++ x ∷ []) (length xs) ≡ Some x
get_last [] x = refl
get_last (y ∷ xs) x = get_last xs x

-- no parts
pub no_parts : (part_at : ℕ → Part) (all : Objects) → AreParts part_at 0 all []
no_parts part_at all = record { count_is = refl; each_part = λ number below. absurd (omega (arith, below)) }

-- one part more
pub parts_more : (part_at : ℕ → Part) (count : ℕ) (all : Objects) (stores : List MemoryStore) (store : MemoryStore) → AreParts part_at count all stores → IsPartOf (part_at count) all store
    → AreParts part_at (count + 1) all (stores ++ store ∷ [])
parts_more part_at count all stores store h is = record {
  count_is = omega (arith, h.count_is, length-append stores (store ∷ []));
  each_part = λ number below.
      elim (cases_lt number count) [
        | inl front ↦ subst (λ o. IsSomeAnd o (λ s. IsPartOf (part_at number) all s)) (sym (get_front stores store number (omega (arith, front, h.count_is)))) (h.each_part number front)
        | inr last ↦
            let here : number ≡ length stores = omega (arith, last, below, h.count_is) in
            let top : count ≡ number = omega (arith, here, h.count_is) in
            subst (λ o. IsSomeAnd o (λ s. IsPartOf (part_at number) all s)) (sym (ap (λ n. slice_get (stores ++ store ∷ []) n) here ∙ get_last stores store)) (subst (λ n. IsPartOf (part_at n) all store) top is)
      ];
}

-- two copies of an object
pub same_pair : (a b c d : List ℕ) → a ≡ b → c ≡ d → ◌≡◌ {A = List ℕ × List ℕ} (a, c) (b, d)
same_pair a b c d h k = cc

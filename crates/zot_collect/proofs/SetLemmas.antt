-- Sets of digests as tests.
use Rattle.std.proofs.Common.{◌≡◌, ◌<◌, ◌+◌, ℕ, Bool, true, false, cond, ◌||◌, List, [], ◌∷◌, map, take, length, get_or, refl, sym, ap, subst, ◌∙◌}
use Rattle.std.specs.BTreeMap.{is_at}
use Rattle.std.specs.List.{AllByRecursion, filter, list_any}
use Rattle.std.specs.List.Sorted.{IsStrictlySortedBy}
use Rattle.std.specs.Str.{bytes_eq}
use Rattle.std.specs.declared.cmp.Ordering.TheVariants.{Less}
use Rattle.std.proofs.lemmas.Slice.Eq.{bytes_eq-Decides}
use Rattle.zot_collect.proofs.TestLemmas.{any_further, or_assoc}
use Rattle.zot_digest.specs.ByteMap.{byte_cmp}
use Rattle.zot_retention.specs.Kept.{Ascend}
use Rattle.zot_maps.proofs.Maps.{byte_order, same_key, tied_keys}

pub same_tests : (p q : Bool) → (p ≡ true → q ≡ true) → (q ≡ true → p ≡ true) → p ≡ q
same_tests true true f g = refl
same_tests true false f g = sym (f refl)
same_tests false true f g = g refl
same_tests false false f g = refl

-- a key is found in the order of bytes just where it is equal
at_bytes : (a b : List ℕ) → is_at (byte_cmp a) b ≡ bytes_eq a b
at_bytes a b =
    same_tests _ _ (λ h. (bytes_eq-Decides a b).1 (tied_keys byte_order a b h))
    (λ h. subst (λ x. is_at (byte_cmp a) x ≡ true) ((bytes_eq-Decides a b).0 h) (same_key byte_order a))

either : (b old : Bool) → cond b true old ≡ (old || b)
either true true = refl
either true false = refl
either false true = refl
either false false = refl

-- what a set has after a digest was added
pub added : (digest other : List ℕ) (old : Bool) → cond (is_at (byte_cmp digest) other) true old ≡ (old || bytes_eq digest other)
added digest other old = either (is_at (byte_cmp digest) other) old ∙ ap (λ b. old || b) (at_bytes digest other)

-- what was added of the first elements, and then of one more
pub added_further : {X : Type 0} (p : X → Bool) (xs : List X) (i : ℕ) (x : X) (old now next : Bool) → i < length xs → x ≡ get_or xs i x →
    now ≡ (old || list_any p (take i xs)) → next ≡ (now || p x) → next ≡ (old || list_any p (take (i + 1) xs))
added_further p xs i x old now next within is so_far step =
    step ∙ ap (λ b. b || p x) so_far ∙ or_assoc old (list_any p (take i xs)) (p x) ∙ ap (λ b. old || b) (sym (any_further p xs i x within is))

pub same_bytes : (a b : List ℕ) → a ≡ b → bytes_eq a b ≡ true
same_bytes a b h = (bytes_eq-Decides a b).1 h

pub bytes_same : (a b : List ℕ) → bytes_eq a b ≡ true → a ≡ b
bytes_same a b h = (bytes_eq-Decides a b).0 h

-- what is left of keys that ascend ascends
one_below : {X : Type 0} (P : List ℕ → Type 0) (key : X → List ℕ) (x : X) (xs : List X) (stays : Bool) → P (key x) → AllByRecursion P (map key xs) →
    AllByRecursion P (map key (cond stays (x ∷ xs) xs))
one_below P key x xs true here all = (here, all)
one_below P key x xs false here all = all

each_below : {X : Type 0} (P : List ℕ → Type 0) (key : X → List ℕ) (test : X → Bool) (xs : List X) → AllByRecursion P (map key xs) → AllByRecursion P (map key (filter test xs))
each_below P key test [] all = all
each_below P key test (x ∷ xs) all = one_below P key x (filter test xs) (test x) all.0 (each_below P key test xs all.1)

one_first : {X : Type 0} (key : X → List ℕ) (x : X) (xs : List X) (stays : Bool) → AllByRecursion (λ k. byte_cmp (key x) k ≡ Less) (map key xs) →
    Ascend (map key xs) → Ascend (map key (cond stays (x ∷ xs) xs))
unfolding IsStrictlySortedBy
one_first key x xs true below up = (below, up)
one_first key x xs false below up = up

pub ascend_filter : {X : Type 0} (key : X → List ℕ) (test : X → Bool) (xs : List X) → Ascend (map key xs) → Ascend (map key (filter test xs))
unfolding IsStrictlySortedBy
ascend_filter key test [] up = up
ascend_filter key test (x ∷ xs) up = one_first key x (filter test xs) (test x) (each_below _ key test xs up.0) (ascend_filter key test xs up.1)

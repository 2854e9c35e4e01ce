-- Ranks: in a sorted list the elements that come before a key are its first ones.
use Rattle.std.proofs.Common.{◌≡◌, ◌<◌, ◌≤◌, ◌-◌, ℕ, zero, suc, ◌+◌, Bool, true, false, cond, not, ◌&&◌, ◌||◌, nat_lt, List, [], ◌∷◌, map, length, get_or, Option, None, Some, option_map, slice_get, refl, sym, ap, ap₂, ◌∙◌, arith}
use Rattle.std.specs.List.{All, count_by, filter}
use Rattle.std.specs.List.Sorted.{IsPermutation, IsSortedBy}
use Rattle.std.specs.Cmp.{IsStrictWeakOrder, IsTotalOrder, back_total, nat_cmp_total, on_total, then_total}
use Rattle.std.specs.Cmp.Lexicographic.{nat_list_cmp_total}
use Rattle.std.specs.Ordering.{is_lt, ordering_then}
use Rattle.std.specs.declared.cmp.Ordering.{Ordering}
use Rattle.std.specs.declared.cmp.Ordering.TheVariants.{Less, Equal, Greater}
use Rattle.std.proofs.lemmas.Bool.Decides.{nat_tests}
use Rattle.std.proofs.lemmas.List.Elements.{All-tail}
use Rattle.std.proofs.lemmas.List.Sorted.{sorted_far, sum_by-IsPermutation, ranks_by}
use Rattle.std.proofs.lemmas.List.Sums.{count_by-le-length, sum_by-cons}
use Rattle.std.proofs.lemmas.Option.{slice_get-map, slice_get_read}
use mathlib.Core.Path.{fun_ext}
use Rattle.zot_retention.specs.Kept.{comes_before}
use Rattle.zot_retention.specs.Ranks.{IsInOrder, Key, count_before, key_cmp, key_of, key_of_row}
use Rattle.zot_retention.specs.declared.recency.Recency.{Recency}
use Rattle.zot_retention.specs.declared.tag_row.TagRow.{TagRow}

-- no element passes, and none is counted
count_none : {X : Type 0} (p : X → Bool) (xs : List X) → All (λ x. p x ≡ false) xs → count_by p xs ≡ 0
count_none p [] none = refl
count_none p (x ∷ xs) none =
    let here : p x ≡ false = none 0 x (omega arith) in
    sum_by-cons (λ y. cond (p y) 1 0) x xs ∙ ap₂ (λ (b : Bool) n. cond b 1 0 + n) here (count_none p xs (All-tail (λ y. p y ≡ false) x xs none))

pub count_by-map : {X Y : Type 0} (p : Y → Bool) (f : X → Y) (xs : List X) → count_by p (map f xs) ≡ count_by (λ x. p (f x)) xs
count_by-map p f [] = refl
count_by-map p f (x ∷ xs) =
    sum_by-cons (λ y. cond (p y) 1 0) (f x) (map f xs)
    ∙ ap (λ n. cond (p (f x)) 1 0 + n) (count_by-map p f xs)
    ∙ sym (sum_by-cons (λ y. cond (p (f y)) 1 0) x xs)

one_filtered : {X : Type 0} (p : X → Bool) (x : X) (xs : List X) (stays : Bool) →
    count_by p (cond stays (x ∷ xs) xs) ≡ cond (stays && p x) 1 0 + count_by p xs
one_filtered p x xs true = sum_by-cons (λ y. cond (p y) 1 0) x xs
one_filtered p x xs false = omega arith

pub count_by-filter : {X : Type 0} (p test : X → Bool) (xs : List X) → count_by p (filter test xs) ≡ count_by (λ x. test x && p x) xs
count_by-filter p test [] = refl
count_by-filter p test (x ∷ xs) =
    one_filtered p x (filter test xs) (test x)
    ∙ ap (λ n. cond (test x && p x) 1 0 + n) (count_by-filter p test xs)
    ∙ sym (sum_by-cons (λ y. cond (test y && p y) 1 0) x xs)

-- an element is no later than the last one that counts, if there is one
abbrev pub is_up_to : {K : Type 0} → (K → K → Bool) → K → Option K → Bool
is_up_to lt key None = true
is_up_to lt key (Some last) = not (lt last key)

none_first : (k : ℕ) → nat_lt 0 (suc k) ≡ true
none_first k = grind (arith, nat_tests)

not_first : (n : ℕ) → nat_lt (1 + n) 1 ≡ false
not_first n = grind (arith, nat_tests)

one_less : (n k : ℕ) → nat_lt (1 + n) (suc k) ≡ nat_lt n k
one_less n k = grind (arith, nat_tests)

module _ {K X : Type 0} (lt : K → K → Bool) (order : IsStrictWeakOrder lt) (key : X → K) where
  by_key : IsStrictWeakOrder (λ x y. lt (key x) (key y))
  by_key = record {
    one_way = λ x y. order.one_way (key x) (key y);
    chain = λ x y z. order.chain (key x) (key y) (key z);
  }

  none_before : (q : K) (y : X) (ys : List X) → IsSortedBy (λ a b. lt (key a) (key b)) (y ∷ ys) → lt (key y) q ≡ false →
      All (λ z. lt (key z) q ≡ false) (y ∷ ys)
  none_before q y ys sorted after k d within =
      order.chain _ (key y) q (sorted_far (λ a b. lt (key a) (key b)) by_key (y ∷ ys) sorted 0 k d (omega arith) within) after

  late : (q : K) (ys : List X) (k : ℕ) → All (λ z. lt (key z) q ≡ false) ys → is_up_to lt q (slice_get (map key ys) k) ≡ true
  late q [] k none = refl
  late q (y ∷ ys) zero none = let here : lt (key y) q ≡ false = none 0 y (omega arith) in ap not here
  late q (y ∷ ys) (suc k) none = late q ys k (All-tail (λ z. lt (key z) q ≡ false) y ys none)

  sorted_tail : (y : X) (ys : List X) → IsSortedBy (λ a b. lt (key a) (key b)) (y ∷ ys) → IsSortedBy (λ a b. lt (key a) (key b)) ys
  sorted_tail y ys sorted k d low high =
      let next : suc k + 1 ≡ suc (k + 1) = omega arith in
      rw next at (sorted (suc k) d (omega arith) (omega arith))

  -- fewer elements than k + 1 come before a key exactly where the element at k doesn't
  -- the first element comes before the key, or none does
  by_first : (q : K) (y : X) (ys : List X) (k : ℕ) (b : Bool) → lt (key y) q ≡ b → IsSortedBy (λ a b. lt (key a) (key b)) (y ∷ ys) →
      ((k : ℕ) → nat_lt (count_by (λ z. lt (key z) q) ys) (suc k) ≡ is_up_to lt q (slice_get (map key ys) k)) →
      nat_lt (count_by (λ z. lt (key z) q) (y ∷ ys)) (suc k) ≡ is_up_to lt q (slice_get (map key (y ∷ ys)) k)
  by_first q y ys k false e sorted rest =
      let none = none_before q y ys sorted e in
      ap (λ n. nat_lt n (suc k)) (count_none (λ z. lt (key z) q) (y ∷ ys) none) ∙ none_first k ∙ sym (late q (y ∷ ys) k none)
  by_first q y ys zero true e sorted rest =
      let one : count_by (λ z. lt (key z) q) (y ∷ ys) ≡ 1 + count_by (λ z. lt (key z) q) ys =
      sum_by-cons (λ z. cond (lt (key z) q) 1 0) y ys ∙ ap (λ (b : Bool). cond b 1 0 + count_by (λ z. lt (key z) q) ys) e in
      ap (λ n. nat_lt n 1) one ∙ not_first (count_by (λ z. lt (key z) q) ys) ∙ sym (ap not e)
  by_first q y ys (suc k) true e sorted rest =
      let one : count_by (λ z. lt (key z) q) (y ∷ ys) ≡ 1 + count_by (λ z. lt (key z) q) ys =
      sum_by-cons (λ z. cond (lt (key z) q) 1 0) y ys ∙ ap (λ (b : Bool). cond b 1 0 + count_by (λ z. lt (key z) q) ys) e in
      ap (λ n. nat_lt n (suc (suc k))) one ∙ one_less (count_by (λ z. lt (key z) q) ys) (suc k) ∙ rest k

  -- fewer elements than k + 1 come before a key exactly where the element at k doesn't
  pub among_first : (q : K) (ys : List X) (k : ℕ) → IsSortedBy (λ a b. lt (key a) (key b)) ys →
      nat_lt (count_by (λ y. lt (key y) q) ys) (suc k) ≡ is_up_to lt q (slice_get (map key ys) k)
  among_first q [] k sorted = none_first k
  among_first q (y ∷ ys) k sorted =
      by_first q y ys k (lt (key y) q) refl sorted (λ i. among_first q ys i (sorted_tail y ys sorted))

-- the order of pushes is the one that ranks go by
by_pushes : (later same : Bool) (texts : Ordering) →
    is_lt (ordering_then (cond later Less (cond same Equal Greater)) texts) ≡ (later || (same && is_lt texts))
by_pushes true same texts = refl
by_pushes false true texts = refl
by_pushes false false texts = refl

pub before_is : (a b : TagRow) → is_lt (key_cmp (key_of_row a) (key_of_row b)) ≡ comes_before a b
before_is a b = by_pushes _ _ _

key_total : IsTotalOrder key_cmp
key_total = then_total (on_total (λ (key : Key). key.0) (back_total nat_cmp_total)) (on_total (λ (key : Key). key.1) nat_list_cmp_total)

abbrev before : Key → Key → Bool
before x y = is_lt (key_cmp x y)

in_order : IsStrictWeakOrder before
in_order = ranks_by key_total (λ (key : Key). key)

-- how many of the found tags come before one, by the pushes of the found tags in any order
pub count_of_pushes : (test : TagRow → Bool) (tags : List TagRow) (pushes sorted : List Recency) (row : TagRow) →
    map key_of pushes ≡ map key_of_row (filter test tags) → IsPermutation pushes sorted →
    count_before row sorted ≡ count_by (λ other. test other && comes_before other row) tags
count_of_pushes test tags pushes sorted row e moved =
    let key = key_of_row row in
    sum_by-IsPermutation (λ push. cond (before (key_of push) key) 1 0) pushes sorted moved
    ∙ sym (count_by-map (λ other. before other key) key_of pushes)
    ∙ ap (count_by (λ other. before other key)) e
    ∙ count_by-map (λ other. before other key) key_of_row (filter test tags)
    ∙ count_by-filter (λ other. before (key_of_row other) key) test tags
    ∙ ap (λ p. count_by p tags) (fun_ext (λ other. ap (λ b. test other && b) (before_is other row)))

-- of pushes in order, fewer than count come before a tag where there are fewer, and where the last that counts doesn't
pub few_before : (pushes : List Recency) (count : ℕ) (row : TagRow) → length pushes < count → true ≡ nat_lt (count_before row pushes) count
few_before pushes count row few =
    let most = count_by-le-length (λ push. is_lt (key_cmp (key_of push) (key_of_row row))) pushes in
    grind (arith, nat_tests, most, few)

pub up_to_last : (pushes : List Recency) (count : ℕ) (last : Recency) (row : TagRow) → IsInOrder pushes → 0 < count → count ≤ length pushes →
    last ≡ get_or pushes (count - 1) last →
    not (is_lt (key_cmp (key_of last) (key_of_row row))) ≡ nat_lt (count_before row pushes) count
up_to_last pushes count last row sorted some enough is =
    let stands : slice_get (map key_of pushes) (count - 1) ≡ Some (key_of last) =
    slice_get-map key_of pushes (count - 1)
    ∙ ap (option_map key_of) (slice_get_read pushes (length pushes) (count - 1) last refl (omega arith) is) in
    let next : suc (count - 1) ≡ count = omega arith in
    sym (ap (is_up_to before (key_of_row row)) stands)
    ∙ sym (among_first before in_order key_of (key_of_row row) pushes (count - 1) sorted)
    ∙ ap (nat_lt (count_before row pushes)) next

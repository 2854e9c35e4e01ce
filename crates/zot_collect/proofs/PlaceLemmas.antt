-- Places of manifests in the order of their digests.
use Rattle.std.proofs.Common.{◌≡◌, ◌≢◌, inl, inr, ◌<◌, ◌≤◌, ◌-◌, ◌+◌, ℕ, refl, Ordering, true, false, List, [], length, get_or, slice_get, Some, unwrap_or, All, sym, ap, ap₂, subst, ◌∙◌, arith, true≢false, is_eq, is_lt, HoldsAt}
use Rattle.std.specs.List.Sorted.{IsNonDecreasingBy, IsPartitionPoint}
use Rattle.std.specs.Ordering.{ordering_index, ordering_reverse}
use Rattle.std.specs.declared.cmp.Ordering.TheVariants.{Less, Equal, Greater}
use Rattle.std.proofs.lemmas.Bool.{cases_lt}
use Rattle.std.proofs.lemmas.List.{get_or-map, length-map}
use Rattle.std.proofs.lemmas.List.Sorted.{searchable_from_sorted}
use Rattle.std.proofs.lemmas.Map.Keys.{Less-from_sorted, sorted_from_all_adjacent}
use Rattle.std.proofs.lemmas.Option.{get_or_from_slice_get, slice_get-get_or, slice_get_read, slice_get_within}
use Rattle.zot_collect.proofs.TestLemmas.{item_at}
use Rattle.zot_collect.specs.Marks.{HoldsThere}
use Rattle.zot_model.specs.Retire.{digests}
use Rattle.zot_model.specs.declared.manifest_row.ManifestRow.{ManifestRow}
use Rattle.zot_digest.specs.ByteMap.{byte_cmp}
use Rattle.zot_maps.proofs.Maps.{byte_order, same_key}
use Rattle.zot_retention.specs.Kept.{Ascend}

pub same_row : {X : Type 0} (xs : List X) (i : ℕ) (x y : X) → slice_get xs i ≡ Some x → slice_get xs i ≡ Some y → x ≡ y
same_row xs i x y at_x at_y = ap (λ o. unwrap_or o x) (sym at_x ∙ at_y)

pub all_at : {X : Type 0} (P : X → Type 0) (xs : List X) (i : ℕ) (x : X) → All P xs → slice_get xs i ≡ Some x → P x
all_at P xs i x all at = subst P (get_or_from_slice_get xs i x x at) (all i x (slice_get_within xs i x at))

pub digest_at : (rows : List ManifestRow) (i : ℕ) (row : ManifestRow) → slice_get rows i ≡ Some row → get_or (digests rows) i [] ≡ row.digest
digest_at rows i row at =
    get_or-map (λ (other : ManifestRow). other.digest) rows i row [] (slice_get_within rows i row at)
    ∙ ap (λ (other : ManifestRow). other.digest) (get_or_from_slice_get rows i row row at)

not_below : (rows : List ManifestRow) (i j : ℕ) (x y : ManifestRow) → Ascend (digests rows) → slice_get rows i ≡ Some x → slice_get rows j ≡ Some y →
    x.digest ≡ y.digest → i < j → ⊥
not_below rows i j x y up at_x at_y same lt =
    let within : j < length (digests rows) = omega (arith, length-map rows (λ (row : ManifestRow). row.digest), slice_get_within rows j y at_y) in
    let less : byte_cmp x.digest x.digest ≡ Less = ap₂ byte_cmp (sym (digest_at rows i x at_x)) (same ∙ sym (digest_at rows j y at_y)) ∙ Less-from_sorted byte_cmp (digests rows) i j [] up lt within in
    true≢false (sym (same_key byte_order x.digest) ∙ ap is_eq less)

-- each digest stands at one place
pub one_place : (rows : List ManifestRow) (i j : ℕ) (x y : ManifestRow) → Ascend (digests rows) → slice_get rows i ≡ Some x → slice_get rows j ≡ Some y →
    x.digest ≡ y.digest → i ≡ j
one_place rows i j x y up at_x at_y same =
    elim (cases_lt i j) [
      | inl lt ↦ absurd (not_below rows i j x y up at_x at_y same lt)
      | inr ge ↦ elim (cases_lt j i) [
        | inl gt ↦ absurd (not_below rows j i y x up at_y at_x (sym same) gt)
        | inr le ↦ omega arith
      ]
    ]

-- ---- what a search finds

not_less : (a b : List ℕ) → byte_cmp a b ≡ Less → is_lt (byte_cmp b a) ≡ false
not_less a b less = ap is_lt (byte_order.total.antisymm b a ∙ ap ordering_reverse less)

-- the digests compare ever greater with one digest
comparisons_rise : (rows : List ManifestRow) (digest : List ℕ) → Ascend (digests rows) → IsNonDecreasingBy (λ row. ordering_index (byte_cmp row.digest digest)) rows
comparisons_rise rows digest up =
    searchable_from_sorted byte_order.total (λ (row : ManifestRow). row.digest) rows digest (λ k d low high.
    let x_at = slice_get-get_or rows k d (omega (arith, high)) in
    let y_at = slice_get-get_or rows (k + 1) d high in
    let less : byte_cmp (get_or rows k d).digest (get_or rows (k + 1) d).digest ≡ Less =
    ap₂ byte_cmp (sym (digest_at rows k (get_or rows k d) x_at)) (sym (digest_at rows (k + 1) (get_or rows (k + 1) d) y_at))
    ∙ Less-from_sorted byte_cmp (digests rows) k (k + 1) [] up (omega arith) (omega (arith, length-map rows (λ (row : ManifestRow). row.digest), high)) in
    not_less (get_or rows k d).digest (get_or rows (k + 1) d).digest less)

pub found_place : (rows : List ManifestRow) (digest : List ℕ) (place : ℕ) → place < length rows →
    HoldsAt (λ (row : ManifestRow). byte_cmp row.digest digest ≡ Equal) rows place → HoldsThere (λ row. row.digest ≡ digest) rows place
found_place rows digest place within here =
    let item = item_at rows place within in
    let row = get_or rows place item.0 in
    (row, slice_get-get_or rows place item.0 within, byte_order.antisymmetric row.digest digest (here item.0))

pub no_place : (rows : List ManifestRow) (digest : List ℕ) (gap : ℕ) → Ascend (digests rows) →
    (IsNonDecreasingBy (λ (row : ManifestRow). ordering_index (byte_cmp row.digest digest)) rows →
    IsPartitionPoint (λ (row : ManifestRow). byte_cmp row.digest digest ≡ Less) (λ (row : ManifestRow). byte_cmp row.digest digest ≡ Greater) rows gap) →
    (place : ℕ) (row : ManifestRow) → slice_get rows place ≡ Some row → row.digest ≢ digest
no_place rows digest gap up parted place row at same =
    let parts = parted (comparisons_rise rows digest up) in
    let is = get_or_from_slice_get rows place row row at in
    let ties : is_eq (byte_cmp row.digest digest) ≡ true = subst (λ d. is_eq (byte_cmp row.digest d) ≡ true) same (same_key byte_order row.digest) in
    elim (cases_lt place gap) [
      | inl lt ↦ true≢false (sym ties ∙ ap is_eq (subst (λ (r : ManifestRow). byte_cmp r.digest digest ≡ Less) is (parts.0 place row (omega arith) lt)))
      | inr ge ↦ true≢false (sym ties ∙ ap is_eq (subst (λ (r : ManifestRow). byte_cmp r.digest digest ≡ Greater) is (parts.1 place row ge (slice_get_within rows place row at))))
    ]

-- ---- whether they are in order

abbrev pub RiseBelow : List ManifestRow → ℕ → Type 0
RiseBelow rows n = (k : ℕ) → k + 1 < n → byte_cmp (get_or (digests rows) k []) (get_or (digests rows) (k + 1) []) ≡ Less

less_from_test : (o : Ordering) → is_lt o ≡ true → o ≡ Less
less_from_test Less h = refl
less_from_test Equal h = cc h
less_from_test Greater h = cc h

read_digest : (rows : List ManifestRow) (n : ℕ) (x : ManifestRow) → n < length rows → x ≡ get_or rows n x → get_or (digests rows) n [] ≡ x.digest
read_digest rows n x within is = digest_at rows n x (slice_get_read rows (length rows) n x refl within is)

pub rise_more : (rows : List ManifestRow) (n : ℕ) (x y : ManifestRow) → 1 ≤ n → n < length rows → x ≡ get_or rows (n - 1) x → y ≡ get_or rows n y →
    is_lt (byte_cmp x.digest y.digest) ≡ true → RiseBelow rows n → RiseBelow rows (n + 1)
rise_more rows n x y first within is_x is_y less before k lt =
    elim (cases_lt (k + 1) n) [
      | inl below ↦ before k below
      | inr ge ↦
          ap₂ byte_cmp
          (ap (λ q. get_or (digests rows) q []) (same_low ge) ∙ read_digest rows (n - 1) x (omega (arith, first, within)) is_x)
          (ap (λ q. get_or (digests rows) q []) (same_high ge) ∙ read_digest rows n y within is_y)
          ∙ less_from_test (byte_cmp x.digest y.digest) less
    ] where
      same_high : n ≤ k + 1 → k + 1 ≡ n
      same_high ge = omega (arith, ge, lt)

      same_low : n ≤ k + 1 → k ≡ n - 1
      same_low ge = omega (arith, ge, lt)

pub rise_to_end : (rows : List ManifestRow) (n : ℕ) → length rows ≤ n → RiseBelow rows n → Ascend (digests rows)
rise_to_end rows n all rise =
    sorted_from_all_adjacent byte_order.total (digests rows) [] (λ k lt. rise k (omega (arith, lt, all, length-map rows (λ (row : ManifestRow). row.digest))))

pub not_rising : (rows : List ManifestRow) (n : ℕ) (x y : ManifestRow) → 1 ≤ n → n < length rows → x ≡ get_or rows (n - 1) x → y ≡ get_or rows n y →
    is_lt (byte_cmp x.digest y.digest) ≡ false → Ascend (digests rows) → ⊥
not_rising rows n x y first within is_x is_y falls up =
    let less = Less-from_sorted byte_cmp (digests rows) (n - 1) n [] up (omega (arith, first)) (omega (arith, within, length-map rows (λ (row : ManifestRow). row.digest))) in
    let same = ap₂ byte_cmp (sym (read_digest rows (n - 1) x (omega (arith, first, within)) is_x)) (sym (read_digest rows n y within is_y)) in
    true≢false (sym (ap is_lt (same ∙ less)) ∙ falls)

-- Tags in a tree, and pages of them.
use Rattle.std.proofs.Common.{◌≡◌, ℕ, zero, suc, ◌-◌, ◌<◌, Bool, true, false, cond, List, [], ◌∷◌, ◌++◌, length, map, take, drop, Option, Some, None, refl, sym, ap, subst, ◌∙◌, arith, length-drop, if◌then◌else◌}
use Rattle.std.specs.Prelude.{◌&&◌, ◌^◌, IsSome, is_some, nat_lt, slice_get, unwrap_or}
use Rattle.std.specs.BTreeMap.{BTreeMap, is_at}
use Rattle.std.specs.BTreeMap.Range.{IsEntryInRange, entries_between, range_contains}
use Rattle.std.specs.FinMap as finite
use Rattle.std.specs.FinMap.{get-empty, get-insert, get-remove}
use Rattle.std.specs.Cmp.{Equal-is}
use Rattle.std.specs.Cmp.Lexicographic.{nat_list_cmp_total}
use Rattle.std.specs.List.{All, AllByRecursion, filter}
use Rattle.std.specs.List.Sorted.{IsStrictlySortedBy}
use Rattle.std.specs.Map.{keys_of, lookup}
use Rattle.std.specs.Ordering.{eq_by_cmp, is_lt}
use Rattle.std.specs.declared.cmp.Ordering.TheVariants.{Equal}
use Rattle.std.specs.declared.ops.Bound.{Bound}
use Rattle.std.specs.declared.ops.Bound.TheVariants.{Unbounded}
use Rattle.std.specs.Map.Iter.{TakesFirst}
use Rattle.std.proofs.lemmas.Bool.Decides.{nat_tests}
use Rattle.std.proofs.lemmas.List.{take_all}
use Rattle.std.proofs.lemmas.List.Elements.{recursion_from_All}
use Rattle.zot_digest.specs.ByteMap.{ByteMap, byte_cmp, map_of}
use Rattle.zot_manifests.specs.Tags.{AreTags, after}
use Rattle.zot_maps.proofs.Entries.{Writes, entries_of_map, map_written}
use Rattle.zot_maps.proofs.Maps.{byte_order, found_at, get-entries}
use Rattle.zot_model.specs.Manifests.{pulled_at, with_pull}
use Rattle.zot_model.specs.Pages.{comes_after, last_of, page, page_of, tags_after}
use Rattle.zot_model.specs.State.{StoredTag}
use Rattle.zot_names.specs.Tag.{IsTag}

-- ---- texts that are tags

is_none : (o : Option StoredTag) → o ≡ None → ¬ (IsSome o)
is_none None h is = cc is
is_none (Some s) h is = cc h

pub tags_empty : (tags : ByteMap StoredTag) → tags ≡ finite.empty → AreTags tags
tags_empty tags is tag has = absurd (is_none (finite.get tags tag) (ap (λ m. finite.get m tag) is ∙ get-empty byte_cmp tag) has)

placed : (b : Bool) (q tag : List ℕ) (entry : StoredTag) (found : Option StoredTag) → eq_by_cmp byte_cmp q tag ≡ b → IsSome (cond b (Some entry) found) → (IsSome found → IsTag q) → IsTag tag → IsTag q
placed true q tag entry found e has old here = subst IsTag (sym (byte_order.antisymmetric q tag (tied e))) here where
  tied : eq_by_cmp byte_cmp q tag ≡ true → byte_cmp q tag ≡ Equal
  tied h = (Equal-is (byte_cmp q tag)).0 h
placed false q tag entry found e has old here = old has

pub tags_insert : (old new : ByteMap StoredTag) (tag : List ℕ) (entry : StoredTag) → new ≡ finite.insert old tag entry → AreTags old → IsTag tag → AreTags new
tags_insert old new tag entry is are here q has =
    placed (eq_by_cmp byte_cmp q tag) q tag entry (finite.get old q) refl (subst (λ o. IsSome o) (ap (λ m. finite.get m q) is ∙ get-insert nat_list_cmp_total old tag entry q) has) (are q) here

gone : (b : Bool) (found : Option StoredTag) → IsSome (cond b None found) → IsSome found
gone true found h = absurd (is_none None refl h)
gone false found h = h

pub tags_remove : (old new : ByteMap StoredTag) (tag : List ℕ) → new ≡ finite.remove old tag → AreTags old → AreTags new
tags_remove old new tag is are q has =
    are q (gone (eq_by_cmp byte_cmp q tag) (finite.get old q) (subst (λ o. IsSome o) (ap (λ m. finite.get m q) is ∙ get-remove nat_list_cmp_total old tag q) has))

-- ---- pulls

pub pulled_there : (es fs : List (List ℕ × StoredTag)) (tags : ByteMap StoredTag) (tag : List ℕ) (found written : StoredTag) (moment : ℕ) → map_of es ≡ tags → Some found ≡ lookup (is_at (byte_cmp tag)) es
    → Writes byte_order es fs tag written → written ≡ pulled_at moment found → map_of fs ≡ with_pull moment tags tag (finite.get tags tag)
pulled_there es fs tags tag found written moment are has writes is =
    map_written byte_order es fs tags tag found written are has writes
    ∙ ap (finite.insert tags tag) is
    ∙ ap (with_pull moment tags tag) (sym (found_at byte_order es tags tag (Some found) are has))

pub pulled_none : (es : List (List ℕ × StoredTag)) (tags : ByteMap StoredTag) (tag : List ℕ) (moment : ℕ) → map_of es ≡ tags → None ≡ lookup (is_at (byte_cmp tag)) es → tags ≡ with_pull moment tags tag (finite.get tags tag)
pulled_none es tags tag moment are has = ap (with_pull moment tags tag) (sym (found_at byte_order es tags tag None are has))

pub tags_pulled : (es fs : List (List ℕ × StoredTag)) (tag : List ℕ) (found written : StoredTag) → Some found ≡ lookup (is_at (byte_cmp tag)) es → Writes byte_order es fs tag written → AreTags (map_of es) → AreTags (map_of fs)
tags_pulled es fs tag found written has writes are =
    tags_insert (map_of es) (map_of fs) tag written (map_written byte_order es fs (map_of es) tag found written refl has writes) are
    (are tag (subst (λ o. IsSome o) (sym (found_at byte_order es (map_of es) tag (Some found) refl has)) refl))

-- ---- pages

and_true : (b : Bool) → (b && true) ≡ b
and_true true = refl
and_true false = refl

in_range : (last : Option (List ℕ)) (tag : List ℕ) → range_contains byte_cmp (after last) Unbounded tag ≡ comes_after last tag
in_range None tag = refl
in_range (Some last) tag = and_true (is_lt (byte_cmp last tag))

filtered_keys : (last : Option (List ℕ)) (es : List (List ℕ × StoredTag)) → keys_of (entries_between byte_cmp (after last) Unbounded es) ≡ filter (comes_after last) (keys_of es)
filtered_keys last [] = refl
filtered_keys last (e ∷ es) =
    ap (λ b. keys_of (cond b (e ∷ entries_between byte_cmp (after last) Unbounded es) (entries_between byte_cmp (after last) Unbounded es))) (in_range last e.0)
    ∙ elim (comes_after last e.0) as (λ b. keys_of (cond b (e ∷ entries_between byte_cmp (after last) Unbounded es) (entries_between byte_cmp (after last) Unbounded es)) ≡ cond b (e.0 ∷ filter (comes_after last) (keys_of es)) (filter (comes_after last) (keys_of es))) [
      | true ↦ ap (λ l. e.0 ∷ l) (filtered_keys last es)
      | false ↦ filtered_keys last es
    ]

-- the keys of the range are the tags after the text
pub range_keys : (es rest : List (List ℕ × StoredTag)) (tags : ByteMap StoredTag) (last : Option (List ℕ)) → IsStrictlySortedBy byte_cmp (keys_of es) → map_of es ≡ tags → rest ≡ entries_between byte_cmp (after last) Unbounded es
    → keys_of rest ≡ tags_after tags last
range_keys es rest tags last sorted are is =
    ap keys_of is ∙ filtered_keys last es ∙ ap (λ (l : List (List ℕ × StoredTag)). filter (comes_after last) (map (λ e. e.0) l)) (sym (entries_of_map byte_order es sorted)) ∙ ap (λ m. tags_after m last) are

-- the last of a list, by its place
pub last_place : (tags : List (List ℕ)) → slice_get tags (length tags - 1) ≡ last_of tags
last_place [] = refl
last_place (tag ∷ []) = refl
last_place (tag ∷ other ∷ tags) =
    let next : length (tag ∷ other ∷ tags) - 1 ≡ suc (length (other ∷ tags) - 1) = omega arith in
    ap (slice_get (tag ∷ other ∷ tags)) next ∙ last_place (other ∷ tags)

-- ---- the first tags of a range

-- one entry more
pub one_entry : (i : ℕ) (all next : List (List ℕ × StoredTag)) (e : List ℕ × StoredTag) → drop i all ≡ e ∷ next → (take (suc i) (keys_of all) ≡ take i (keys_of all) ++ e.0 ∷ []) × (next ≡ drop (suc i) all)
one_entry zero [] next e h = cc h
one_entry zero (a ∷ all) next e h = (ap (λ (l : List (List ℕ × StoredTag)). take 1 (keys_of l)) h, sym (ap (λ (l : List (List ℕ × StoredTag)). drop 1 l) h))
one_entry (suc i) [] next e h = cc h
one_entry (suc i) (a ∷ all) next e h = let more = one_entry i all next e h in (ap (λ l. a.0 ∷ l) more.0, more.1)

-- all entries of a range are kept under tags
pub range_tags : (m : BTreeMap (List ℕ) StoredTag) (lo hi : Bound (List ℕ)) (rest : List (List ℕ × StoredTag)) → AreTags (map_of m.entries) → All (IsEntryInRange byte_cmp lo hi m) rest → AllByRecursion (λ e. IsTag e.0) rest
range_tags m lo hi rest are all = each_tag rest (recursion_from_All (IsEntryInRange byte_cmp lo hi m) rest all) where
  each_tag : (rest : List (List ℕ × StoredTag)) → AllByRecursion (IsEntryInRange byte_cmp lo hi m) rest → AllByRecursion (λ e. IsTag e.0) rest
  each_tag [] h = tt
  each_tag (e ∷ rest) h = (are e.0 (subst (λ o. IsSome o) (sym (get-entries byte_order m.entries e.0 ∙ h.0.1)) refl), each_tag rest h.1)

-- whether an iterator gives one more
pub gives_more : {A : Type 0} (shows : A → List ℕ × StoredTag) (rest next : List (List ℕ × StoredTag)) (r : Option A) → TakesFirst shows rest r next → is_some r ≡ nat_lt 0 (length rest)
gives_more shows rest next None h = ap (λ (l : List (List ℕ × StoredTag)). nat_lt 0 (length l)) (sym h.0)
gives_more shows rest next (Some x) h = grind (arith, nat_tests, ap (λ (l : List (List ℕ × StoredTag)). length l) h)

length_keys : (es : List (List ℕ × StoredTag)) → length (keys_of es) ≡ length es
length_keys [] = refl
length_keys (e ∷ es) = ap suc (length_keys es)

-- the tags of the page
pub page_tags : (n : Option ℕ) (tags : List (List ℕ)) → length tags < 2 ^ 63 → take (unwrap_or n 18446744073709551615) tags ≡ (page_of n tags).tags
page_tags None tags few = take_all 18446744073709551615 tags (omega (arith, few))
page_tags (Some n) tags few = refl

if_both : (a b : Bool) (x : Option (List ℕ)) → (a ≡ false → x ≡ None) → (if b then x else None) ≡ (if a && b then x else None)
if_both true b x h = refl
if_both false true x h = h refl
if_both false false x h = refl

none_of_none : (n : ℕ) (tags : List (List ℕ)) → nat_lt 0 n ≡ false → last_of (take n tags) ≡ None
none_of_none zero tags h = refl
none_of_none (suc n) tags h = absurd (grind (arith, nat_tests, h))

-- where the next page goes on
pub page_next : (n : Option ℕ) (tags : List (List ℕ)) (rest : List (List ℕ × StoredTag)) (more : Bool) → length tags < 2 ^ 63 → length rest ≡ length tags - unwrap_or n 18446744073709551615 → more ≡ nat_lt 0 (length rest)
    → (if more then last_of (take (unwrap_or n 18446744073709551615) tags) else None) ≡ (page_of n tags).next
page_next None tags rest more few left is = ap (λ b. if b then last_of (take 18446744073709551615 tags) else None) (is ∙ nothing) where
  nothing : nat_lt 0 (length rest) ≡ false
  nothing = grind (arith, nat_tests, left, few)
page_next (Some n) tags rest more few left is =
    ap (λ b. if b then last_of (take n tags) else None) (is ∙ same)
    ∙ if_both (nat_lt 0 n) (nat_lt n (length tags)) (last_of (take n tags)) (none_of_none n tags) where
      same : nat_lt 0 (length rest) ≡ nat_lt n (length tags)
      same = grind (arith, nat_tests, left)

module _ (es rest : List (List ℕ × StoredTag)) (tags : ByteMap StoredTag) (last : Option (List ℕ)) (n : Option ℕ) (most : ℕ) (sorted : IsStrictlySortedBy byte_cmp (keys_of es)) (are : map_of es ≡ tags)
    (is : rest ≡ entries_between byte_cmp (after last) Unbounded es) (small : length rest < 2 ^ 63) (most_is : most ≡ unwrap_or n 18446744073709551615) where
  keys : keys_of rest ≡ tags_after tags last
  keys = range_keys es rest tags last sorted are is

  few : length (tags_after tags last) < 2 ^ 63
  few = subst (λ m. m < 2 ^ 63) (sym (length_keys rest) ∙ ap length keys) small

  first : (items : List (List ℕ)) → items ≡ take most (keys_of rest) → items ≡ take (unwrap_or n 18446744073709551615) (tags_after tags last)
  first items read = read ∙ ap (λ m. take m (keys_of rest)) most_is ∙ ap (take (unwrap_or n 18446744073709551615)) keys

  -- the tags that were read are those of the page
  pub read_tags : (items : List (List ℕ)) → items ≡ take most (keys_of rest) → items ≡ (page tags n last).tags
  read_tags items read = first items read ∙ page_tags n (tags_after tags last) few

  -- and the next page goes on at the last of them, if more are left
  pub read_next : {A : Type 0} (shows : A → List ℕ × StoredTag) (items : List (List ℕ)) (left after_next : List (List ℕ × StoredTag)) (r : Option A) (more : Bool) (next : Option (List ℕ)) → items ≡ take most (keys_of rest)
      → left ≡ drop most rest → TakesFirst shows left r after_next → more ≡ is_some r → next ≡ (if more then last_of items else None) → next ≡ (page tags n last).next
  read_next shows items left after_next r more next read is_left takes tested h =
      h ∙ ap (λ (l : List (List ℕ)). if more then last_of l else None) (first items read)
      ∙ page_next n (tags_after tags last) left more few
      (ap length is_left ∙ length-drop most rest ∙ ap (λ m. m - most) (sym (length_keys rest) ∙ ap length keys) ∙ ap (λ m. length (tags_after tags last) - m) most_is)
      (tested ∙ gives_more shows left after_next r takes)

-- What a folder's listing has, and which of its paths comes next.
use Rattle.std.proofs.Common.{◌≡◌, ◌≢◌, ℕ, zero, suc, ◌<◌, ◌≤◌, Bool, true, false, cond, eqb, ltb, ◌+◌, ◌⊎◌, inl, inr, List, [], ◌∷◌, ◌++◌, length, get_or, take, drop, map, Option, Some, None, option_map, refl, sym, ap, ◌∙◌, subst, arith, All, Bor, String, string_bytes, string_cmp, IsSorted, IfSome, MatchOption, unwrap_or}
use Rattle.std.proofs.lemmas.Bool.{eqb-false, ltb-false, ltb-true}
use Rattle.std.proofs.lemmas.Cmp.{tied_itself, upto}
use Rattle.std.proofs.lemmas.List.{get_or-map, get_or-drop, get_or_default, length-drop, length-map, take_at}
use Rattle.std.proofs.lemmas.List.Elements.{All-from_get_or, All-map, All-push}
use Rattle.std.proofs.lemmas.List.Sorted.{ranks_by, sorted_far}
use Rattle.std.specs.List.Sorted.{IsPartitionPoint, IsPartitionedBy}
use Rattle.std.specs.Fs.{dir_entry_name, dir_entry_path}
use Rattle.std.specs.Path.{rfind_below, rsplit_once}
use Rattle.std.specs.Slice.{IsItemAt}
use Rattle.std.specs.declared.fs.dir.DirEntry.{DirEntry}
use Rattle.std.specs.declared.cmp.Ordering.{Ordering}
use Rattle.std.specs.declared.cmp.Ordering.TheVariants.{Less, Equal, Greater}
use Rattle.std.specs.Ordering.{is_gt, is_le, is_lt, ordering_reverse}
use Rattle.zot_maps.proofs.Maps.{byte_order}
use Rattle.zot_folder.specs.Listing.{FindsAbove, IsChild, IsEntry, IsFileAbove}
use Rattle.zot_folder.specs.Paths.{is_object_path}
use Rattle.zot_outside.specs.Objects.{path_cmp}

-- no slash stands from a place on up to another
abbrev Plain : List ℕ → ℕ → ℕ → Type 0
Plain text from to = (i : ℕ) → from ≤ i → i < to → get_or text i 0 ≢ 47

plain_more : (text : List ℕ) (from n : ℕ) → get_or text n 0 ≢ 47 → Plain text from n → Plain text from (suc n)
plain_more text from n other plain i reached before =
    elim (ltb i n) as (λ b. ltb i n ≡ b → get_or text i 0 ≢ 47) [
      | true ↦ λ l. plain i reached (ltb-true i n l)
      | false ↦ λ l. let late = ltb-false i n l in let same : i ≡ n = omega arith in subst (λ k. get_or text k 0 ≢ 47) (sym same) other
    ] refl

plain_step : (text : List ℕ) (n : ℕ) (r : Option ℕ) → get_or text n 0 ≢ 47 → MatchOption r (Plain text 0 n) (λ k. Plain text (k + 1) n) → MatchOption r (Plain text 0 (suc n)) (λ k. Plain text (k + 1) (suc n))
plain_step text n None other h = plain_more text 0 n other h
plain_step text n (Some k) other h = plain_more text (k + 1) n other h

-- no slash stands after the last one of the first n bytes
plain_below : (text : List ℕ) (n : ℕ) → MatchOption (rfind_below 47 text n) (Plain text 0 n) (λ k. Plain text (k + 1) n)
plain_below text zero = λ i reached before. absurd (omega arith)
plain_below text (suc n) =
    elim (eqb (get_or text n 0) 47) as (λ b. eqb (get_or text n 0) 47 ≡ b → MatchOption (cond b (Some n) (rfind_below 47 text n)) (Plain text 0 (suc n)) (λ k. Plain text (k + 1) (suc n))) [
      | true ↦ λ _ i reached before. absurd (omega arith)
      | false ↦ λ other. plain_step text n (rfind_below 47 text n) (eqb-false (get_or text n 0) 47 other) (plain_below text n)
    ] refl

-- what follows the last slash has none
last_plain : (text : List ℕ) (r : Option ℕ) → MatchOption r (Plain text 0 (length text)) (λ k. Plain text (k + 1) (length text))
    → All (λ b. b ≢ 47) (unwrap_or (option_map (λ (parts : List ℕ × List ℕ). parts.1) (option_map (λ i. (take i text, drop (i + 1) text)) r)) text)
last_plain text None plain = All-from_get_or (λ b. b ≢ 47) text 0 (λ i inside. plain i (omega arith) inside)
last_plain text (Some k) plain = All-from_get_or (λ b. b ≢ 47) (drop (k + 1) text) 0 (λ i inside.
    subst (λ b. b ≢ 47) (sym (get_or-drop (k + 1) text i 0)) (plain ((k + 1) + i) (omega arith) (omega (arith, length-drop (k + 1) text))))

pub name_without_slash : {R A F D : Type 0} (entry : DirEntry R A F D) → All (λ b. b ≢ 47) (dir_entry_name entry)
unfolding rsplit_once
name_without_slash entry = let path = dir_entry_path entry in last_plain path (rfind_below 47 path (length path)) (plain_below path (length path))

no_name : is_object_path [] ≡ true → ⊥
no_name h = cc h

-- the path of an entry is one in the folder, since its name has no slash, and is a part of an object's path
pub child_found : {Z : Type 0} (folder name : List ℕ) (found : Option (String Z)) → All (λ b. b ≢ 47) name → is_object_path name ≡ true → IfSome found (λ path. IsEntry folder name (string_bytes path))
    → IfSome found (λ path. IsChild folder (string_bytes path))
child_found folder name None plain part entry = tt
child_found folder name (Some path) plain part entry = record { name = name; plain = plain; named = λ is. no_name (sym (ap is_object_path is) ∙ part); entry = entry }

module _ {Z : Type 0} (bound : List ℕ) where
  -- whether a path isn't greater than the bound
  abbrev pub within : String Z → Bool
  within path = is_le (path_cmp (string_bytes path) bound)

le_not_gt : (r : Ordering) → is_le r ≡ true → is_gt r ≡ false
le_not_gt Less h = refl
le_not_gt Equal h = refl
le_not_gt Greater h = cc h

not_gt_le : (r : Ordering) → is_gt r ≡ false → is_le r ≡ true
not_gt_le Less h = refl
not_gt_le Equal h = refl
not_gt_le Greater h = cc h

back_not_lt : (r : Ordering) → is_lt (ordering_reverse r) ≡ false → is_gt r ≡ false
back_not_lt Less h = refl
back_not_lt Equal h = refl
back_not_lt Greater h = cc h

-- what isn't greater than the bound has the bound not less than it
le_not_above : (r : Ordering) → is_le r ≡ true → ordering_reverse r ≢ Less
le_not_above Less h k = cc k
le_not_above Equal h k = cc k
le_not_above Greater h k = cc h

gt_above : (r : Ordering) → is_le r ≡ false → ordering_reverse r ≡ Less
gt_above Less h = cc h
gt_above Equal h = cc h
gt_above Greater h = refl

not_lt : (r : Ordering) → is_lt r ≡ false → r ≢ Less
not_lt Less h k = cc h
not_lt Equal h k = cc k
not_lt Greater h k = cc k

-- of paths in order, those that aren't greater than a bound stand first
pub parted : {Z : Type 0} (paths : List (String Z)) (bound : List ℕ) → IsSorted string_cmp paths → IsPartitionedBy (within bound) paths
parted paths bound up i j d before inside le =
    let far = sorted_far _ (ranks_by byte_order.total string_bytes) paths up i j d before inside in
    let one = string_bytes (get_or paths i d) in
    let other = string_bytes (get_or paths j d) in
    let near : is_gt (path_cmp one other) ≡ false = back_not_lt (path_cmp one other) (ap is_lt (sym (byte_order.total.antisymm other one)) ∙ far) in
    not_gt_le _ (upto byte_order.total one other bound near (le_not_gt _ le))

-- no other path that is greater is less than the first that is
least_above : {Z : Type 0} (paths : List (String Z)) (bound : List ℕ) (i k : ℕ) (path d : String Z) → IsSorted string_cmp paths
    → IsPartitionPoint (λ y. within bound y ≡ true) (λ y. within bound y ≡ false) paths i → i < length paths → path ≡ get_or paths i path → k < length paths
    → path_cmp bound (string_bytes (get_or paths k d)) ≡ Less → path_cmp (string_bytes (get_or paths k d)) (string_bytes path) ≢ Less
least_above paths bound i k path d up point inside is listed greater =
    let other = string_bytes (get_or paths k d) in
    elim (ltb k i) as (λ b. ltb k i ≡ b → path_cmp other (string_bytes path) ≢ Less) [
      | true ↦ λ before. absurd (le_not_above (path_cmp other bound) (point.0 k d (omega arith) (ltb-true k i before)) (sym (byte_order.total.antisymm bound other) ∙ greater))
      | false ↦ λ late. subst (λ p. path_cmp other (string_bytes p) ≢ Less) (sym (is ∙ get_or_default paths i path d inside))
          (not_lt _ (sorted_far _ (ranks_by byte_order.total string_bytes) paths up i k d (ltb-false k i late) listed))
    ] refl

-- the first that is greater is the least
pub finds_above : {Z : Type 0} (paths : List (String Z)) (bound : List ℕ) (i : ℕ) (r : Option (Bor (String Z))) → IsSorted string_cmp paths
    → IsPartitionPoint (λ y. within bound y ≡ true) (λ y. within bound y ≡ false) paths i → IsItemAt paths i r → FindsAbove (map string_bytes paths) bound (option_map (λ path. string_bytes path.now) r)
finds_above paths bound i None up point item =
    All-map (λ other. path_cmp bound other ≢ Less) string_bytes paths (λ k d inside.
    let past : length paths ≤ i = item.3 in
    subst (λ o. o ≢ Less) (sym (byte_order.total.antisymm bound (string_bytes (get_or paths k d)))) (le_not_above _ (point.0 k d (omega arith) (omega (arith, past)))))
finds_above paths bound i (Some x) up point item =
    let inside : i < length paths = item.3.0 in
    let is : x.now ≡ get_or paths i x.now = item.1 in
    let path = string_bytes x.now in
    record {
      listed = (i, subst (λ n. i < n) (sym (length-map paths string_bytes)) inside, get_or-map string_bytes paths i x.now path inside ∙ ap string_bytes (sym is));
      above = byte_order.total.antisymm bound path ∙ gt_above _ (ap (within bound) is ∙ point.1 i x.now (omega arith) inside);
      least = All-map (λ other. path_cmp bound other ≡ Less → path_cmp other path ≢ Less) string_bytes paths (λ k d listed greater.
          least_above paths bound i k x.now d up point inside is listed greater);
    }

equal_not_greater : Equal ≡ Greater → ⊥
equal_not_greater h = cc h

-- a path isn't greater than itself, nor than one that it is less than
pub itself_not_greater : (path bound : List ℕ) → bound ≡ path → path_cmp path bound ≢ Greater
itself_not_greater path bound is h = equal_not_greater (sym (tied_itself byte_order.total path) ∙ ap (path_cmp path) (sym is) ∙ h)

pub less_not_greater : (path other : List ℕ) → path_cmp path other ≡ Less → path_cmp path other ≢ Greater
less_not_greater path other less h = cc (sym less ∙ h)

-- what is greater than a bound is greater than what the bound isn't less than
pub above_bound : (path bound other : List ℕ) → path_cmp path bound ≢ Greater → path_cmp bound other ≡ Less → path_cmp path other ≡ Less
above_bound path bound other h less =
    elim (path_cmp path bound) as (λ r. path_cmp path bound ≡ r → path_cmp path other ≡ Less) [
      | Less ↦ λ first. byte_order.total.trans path bound other first less
      | Equal ↦ λ tied. byte_order.total.congr path bound other tied ∙ less
      | Greater ↦ λ greater. absurd (h greater)
    ] refl

-- a bound that isn't less than a path stays so
pub bound_kept : (after bound next : List ℕ) → path_cmp after bound ≢ Greater → (next ≡ bound) ⊎ (path_cmp bound next ≡ Less) → path_cmp after next ≢ Greater
bound_kept after bound next h (inl same) = subst (λ b. path_cmp after b ≢ Greater) (sym same) h
bound_kept after bound next h (inr less) = less_not_greater after next (above_bound after bound next h less)

-- what is greater than the bound of a walk is greater than the path that it began after
pub file_after : {Z : Type 0} (after bound : List ℕ) (found : Option (String Z)) → path_cmp after bound ≢ Greater → IfSome (option_map string_bytes found) (IsFileAbove bound)
    → IfSome found (λ path. IsFileAbove after (string_bytes path))
file_after after bound None h is = tt
file_after after bound (Some file) h is = record { above = above_bound after bound (string_bytes file) h is.above; file = is.file }

-- a fact of each element, where one more was added or none
pub All-added : {X : Type 0} (P : X → Type 0) (was now : List X) (more : Option X) → (more ≡ None → now ≡ was) → IfSome more (λ x. now ≡ was ++ x ∷ []) → IfSome more P → All P was → All P now
All-added P was now None same added one all = subst (λ xs. All P xs) (sym (same refl)) all
All-added P was now (Some x) same added one all = subst (λ xs. All P xs) (sym added) (All-push P was x all one)

-- a whole list that was written over in place
pub written_over : {X : Type 0} (written was : List X) (n : ℕ) → length written ≡ n → take n (written ++ drop (length written) was) ≡ written
written_over written was n whole = take_at written (drop (length written) was) n whole

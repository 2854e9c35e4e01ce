-- An index that is written is read as the state that it was written of.
use Rattle.std.proofs.Common.{◌≡◌, ℕ, Bool, true, false, cond, List, [], ◌∷◌, ◌++◌, map, Option, Some, None, append_assoc, refl, sym, ap, subst, ◌∙◌}
use Rattle.std.specs.Prelude.{◌||◌, ◌&&◌, if◌then◌else◌, option_map}
use Rattle.std.specs.BTreeMap.{insert_entry}
use Rattle.std.specs.FinMap.Entries.{find}
use Rattle.std.specs.List.{AllByRecursion, filter, flat_map, list_all, list_any}
use Rattle.std.specs.List.Sorted.{IsStrictlySortedBy}
use Rattle.std.specs.Ordering.{eq_by_cmp}
use Rattle.std.proofs.lemmas.Bool.{true≢false}
use Rattle.std.proofs.lemmas.Slice.Eq.{bytes_eq-Decides}
use Rattle.serde_json.specs.Data.{Data}
use Rattle.zot_digest.specs.ByteMap.{byte_cmp}
use Rattle.zot_maps.proofs.Entries.{AllFound, all_found, entries_ascend}
use Rattle.zot_maps.proofs.Maps.{byte_order}
use Rattle.zot_media.specs.Fields.{each}
use Rattle.zot_layout.specs.Moments.{is_moment}
use Rattle.zot_layout.specs.Notes.{listed_of}
use Rattle.zot_layout.specs.Reading.{manifest_of, may_stand, state_of, tag_of, with_manifests, with_tags}
use Rattle.zot_layout.specs.State.{IsIndex, IsManifest, IsTagOf, as_written, is_of, written_size}
use Rattle.zot_layout.specs.Text.{all_descriptors, descriptors_of, tagged, untagged}
use Rattle.zot_layout.specs.declared.index_manifest.IndexManifest.{IndexManifest}
use Rattle.zot_layout.specs.declared.index_state.IndexState.{IndexState}
use Rattle.zot_layout.specs.declared.index_tag.IndexTag.{IndexTag}
use Rattle.zot_layout.specs.declared.listed.Listed.{Listed}
use Rattle.zot_layout.specs.declared.parts.ManifestPart.{ManifestPart}
use Rattle.zot_layout.specs.declared.parts.TagPart.{TagPart}
use Rattle.zot_layout.proofs.ListedLemmas.{listed_with, pushed_by, tagged_back, untagged_back}
use Rattle.zot_layout.proofs.SortLemmas.{has_key, inserted, inserted_all}

-- ---- lists

pub all_of : {A : Type 0} (P Q : A → Type 0) → ((x : A) → P x → Q x) → (xs : List A) → AllByRecursion P xs → AllByRecursion Q xs
all_of P Q f [] h = tt
all_of P Q f (x ∷ xs) h = (f x h.0, all_of P Q f xs h.1)

pub all_joined : {A : Type 0} (P : A → Type 0) (xs ys : List A) → AllByRecursion P xs → AllByRecursion P ys → AllByRecursion P (xs ++ ys)
all_joined P [] ys h k = k
all_joined P (x ∷ xs) ys h k = (h.0, all_joined P xs ys h.1 k)

pub all_mapped : {A B : Type 0} (P : B → Type 0) (f : A → B) (xs : List A) → AllByRecursion (λ x. P (f x)) xs → AllByRecursion P (map f xs)
all_mapped P f [] h = tt
all_mapped P f (x ∷ xs) h = (h.0, all_mapped P f xs h.1)

all_unmapped : {A B : Type 0} (P : B → Type 0) (f : A → B) (xs : List A) → AllByRecursion P (map f xs) → AllByRecursion (λ x. P (f x)) xs
all_unmapped P f [] h = tt
all_unmapped P f (x ∷ xs) h = (h.0, all_unmapped P f xs h.1)

pub map_twice : {A B C : Type 0} (f : A → B) (g : B → C) (h : A → C) → ((x : A) → g (f x) ≡ h x) → (xs : List A) → map g (map f xs) ≡ map h xs
map_twice f g h same [] = refl
map_twice f g h same (x ∷ xs) = rw (same x, map_twice f g h same xs) refl

pub map_joined : {A B : Type 0} (f : A → B) (xs ys : List A) → map f (xs ++ ys) ≡ map f xs ++ map f ys
map_joined f [] ys = refl
map_joined f (x ∷ xs) ys = ap (λ rest. f x ∷ rest) (map_joined f xs ys)

flat_joined : {A B : Type 0} (f : A → List B) (xs ys : List A) → flat_map f (xs ++ ys) ≡ flat_map f xs ++ flat_map f ys
flat_joined f [] ys = refl
flat_joined f (x ∷ xs) ys = ap (λ rest. f x ++ rest) (flat_joined f xs ys) ∙ sym (append_assoc (f x) (flat_map f xs) (flat_map f ys))

pub any_joined : {A : Type 0} (p : A → Bool) (xs ys : List A) → list_any p (xs ++ ys) ≡ (list_any p xs || list_any p ys)
any_joined p [] ys = refl
any_joined p (x ∷ xs) ys = ap (λ b. p x || b) (any_joined p xs ys) ∙ assoc (p x) (list_any p xs) (list_any p ys) where
  assoc : (a b c : Bool) → (a || (b || c)) ≡ ((a || b) || c)
  assoc true b c = refl
  assoc false b c = refl

pub left_or : (a b : Bool) → a ≡ true → (a || b) ≡ true
left_or true b h = refl
left_or false b h = absurd (true≢false (sym h))

pub right_or : (a b : Bool) → b ≡ true → (a || b) ≡ true
right_or true b h = refl
right_or false b h = h

-- ---- a manifest with one of its tags, or with none

abbrev pub Pair : Type 0
Pair = IndexManifest × Option IndexTag

-- its descriptor, and what is read of that
abbrev describe_by : IndexManifest → Option IndexTag → Data
describe_by manifest None = untagged manifest
describe_by manifest (Some tag) = tagged manifest tag

abbrev describe : Pair → Data
describe pair = describe_by pair.0 pair.1

abbrev pub listed : Pair → Listed
listed pair = listed_with pair.0 (option_map (λ tag. tag.tag) pair.1) (pushed_by pair.1)

abbrev manifest_part : IndexManifest → ManifestPart
manifest_part manifest = record { media = manifest.media; size = written_size manifest.size; arrived = manifest.arrived }

abbrev manifest_entry : IndexManifest → List ℕ × ManifestPart
manifest_entry manifest = (manifest.digest, manifest_part manifest)

abbrev pair_entry : Pair → List ℕ × ManifestPart
pair_entry pair = manifest_entry pair.0

abbrev tag_entry : IndexTag → List ℕ × TagPart
tag_entry tag = (tag.tag, record { digest = tag.digest; pushed = tag.pushed })

abbrev entry_under : List ℕ → Option IndexTag → List (List ℕ × TagPart)
entry_under digest None = []
entry_under digest (Some tag) = (tag.tag, record { digest = digest; pushed = tag.pushed }) ∷ []

abbrev tag_entries : List Pair → List (List ℕ × TagPart)
tag_entries pairs = flat_map (λ pair. entry_under pair.0.digest pair.1) pairs

-- ---- the pairs of an index

module _ (tags : List IndexTag) where
  abbrev under : IndexManifest → IndexTag → Pair
  under manifest tag = (manifest, Some tag)

  abbrev pairs_by : IndexManifest → Bool → List Pair
  pairs_by manifest some = if some then map (under manifest) (filter (is_of manifest.digest) tags) else (manifest, None) ∷ []

  abbrev pairs_of : IndexManifest → List Pair
  pairs_of manifest = pairs_by manifest (list_any (is_of manifest.digest) tags)

  described : (manifest : IndexManifest) (xs : List IndexTag) → map (tagged manifest) xs ≡ map describe (map (under manifest) xs)
  described manifest xs = sym (map_twice (under manifest) describe (tagged manifest) (λ tag. refl) xs)

  one_described : (manifest : IndexManifest) → descriptors_of tags manifest ≡ map describe (pairs_of manifest)
  one_described manifest = by (list_any (is_of manifest.digest) tags) where
    by : (b : Bool) → (if b then map (tagged manifest) (filter (is_of manifest.digest) tags) else untagged manifest ∷ []) ≡ map describe (pairs_by manifest b)
    by true = described manifest (filter (is_of manifest.digest) tags)
    by false = refl

  -- the descriptors of an index are those of its pairs
  all_described : (manifests : List IndexManifest) → flat_map (descriptors_of tags) manifests ≡ map describe (flat_map pairs_of manifests)
  all_described [] = refl
  all_described (manifest ∷ manifests) =
      ap (λ ds. ds ++ flat_map (descriptors_of tags) manifests) (one_described manifest) ∙ ap (λ ds. map describe (pairs_of manifest) ++ ds) (all_described manifests)
      ∙ sym (map_joined describe (pairs_of manifest) (flat_map pairs_of manifests))

  -- what holds of each pair
  module _ (P : Pair → Type 0) where
    all_chosen : (manifest : IndexManifest) (xs : List IndexTag) → AllByRecursion (λ tag. is_of manifest.digest tag ≡ true → P (under manifest tag)) xs
        → AllByRecursion P (map (under manifest) (filter (is_of manifest.digest) xs))
    all_chosen manifest [] h = tt
    all_chosen manifest (tag ∷ xs) h = by (all_chosen manifest xs h.1) (is_of manifest.digest tag) refl where
      by : AllByRecursion P (map (under manifest) (filter (is_of manifest.digest) xs)) → (b : Bool) → is_of manifest.digest tag ≡ b
          → AllByRecursion P (map (under manifest) (if b then tag ∷ filter (is_of manifest.digest) xs else filter (is_of manifest.digest) xs))
      by more true is = (h.0 is, more)
      by more false isnt = more

    abbrev Each : IndexManifest → Type 0
    Each manifest = P (manifest, None) × AllByRecursion (λ tag. is_of manifest.digest tag ≡ true → P (under manifest tag)) tags

    of_one : (manifest : IndexManifest) → Each manifest → (b : Bool) → AllByRecursion P (pairs_by manifest b)
    of_one manifest h true = all_chosen manifest tags h.1
    of_one manifest h false = (h.0, tt)

    of_all : (manifests : List IndexManifest) → AllByRecursion Each manifests → AllByRecursion P (flat_map pairs_of manifests)
    of_all [] h = tt
    of_all (manifest ∷ manifests) h =
        all_joined P (pairs_of manifest) (flat_map pairs_of manifests) (of_one manifest h.0 (list_any (is_of manifest.digest) tags)) (of_all manifests h.1)

  -- ---- which keys they have

  some_chosen : (q : List ℕ) (manifest : IndexManifest) (xs : List IndexTag) → eq_by_cmp byte_cmp q manifest.digest ≡ true → list_any (is_of manifest.digest) xs ≡ true
      → has_key q (map pair_entry (map (under manifest) (filter (is_of manifest.digest) xs))) ≡ true
  some_chosen q manifest [] tied some = absurd (true≢false (sym some))
  some_chosen q manifest (tag ∷ xs) tied some = by (some_chosen q manifest xs tied) (is_of manifest.digest tag) some where
    by : (list_any (is_of manifest.digest) xs ≡ true → has_key q (map pair_entry (map (under manifest) (filter (is_of manifest.digest) xs))) ≡ true)
        → (b : Bool) → (b || list_any (is_of manifest.digest) xs) ≡ true → has_key q (map pair_entry (map (under manifest) (if b then tag ∷ filter (is_of manifest.digest) xs else filter (is_of manifest.digest) xs))) ≡ true
    by more true h = left_or (eq_by_cmp byte_cmp q manifest.digest) (has_key q (map pair_entry (map (under manifest) (filter (is_of manifest.digest) xs)))) tied
    by more false h = more h

  one_has : (q : List ℕ) (manifest : IndexManifest) → eq_by_cmp byte_cmp q manifest.digest ≡ true → has_key q (map pair_entry (pairs_of manifest)) ≡ true
  one_has q manifest tied = by (list_any (is_of manifest.digest) tags) refl where
    by : (b : Bool) → list_any (is_of manifest.digest) tags ≡ b → has_key q (map pair_entry (pairs_by manifest b)) ≡ true
    by true some = some_chosen q manifest tags tied some
    by false none = left_or (eq_by_cmp byte_cmp q manifest.digest) false tied

  key_joined : (q : List ℕ) (xs ys : List Pair) → has_key q (map pair_entry (xs ++ ys)) ≡ (has_key q (map pair_entry xs) || has_key q (map pair_entry ys))
  key_joined q xs ys = ap (has_key q) (map_joined pair_entry xs ys) ∙ any_joined (λ e. eq_by_cmp byte_cmp q e.0) (map pair_entry xs) (map pair_entry ys)

  -- each manifest has a pair
  manifest_has : (q : List ℕ) (manifests : List IndexManifest) (part : ManifestPart) → find byte_cmp q (map manifest_entry manifests) ≡ Some part
      → has_key q (map pair_entry (flat_map pairs_of manifests)) ≡ true
  manifest_has q [] part h = cc h
  manifest_has q (manifest ∷ manifests) part h =
      key_joined q (pairs_of manifest) (flat_map pairs_of manifests) ∙ by (manifest_has q manifests part) (eq_by_cmp byte_cmp q manifest.digest) refl h where
        by : (find byte_cmp q (map manifest_entry manifests) ≡ Some part → has_key q (map pair_entry (flat_map pairs_of manifests)) ≡ true) → (b : Bool) → eq_by_cmp byte_cmp q manifest.digest ≡ b → cond b (Some (manifest_part manifest)) (find byte_cmp q (map manifest_entry manifests)) ≡ Some part
            → (has_key q (map pair_entry (pairs_of manifest)) || has_key q (map pair_entry (flat_map pairs_of manifests))) ≡ true
        by more true tied is = left_or (has_key q (map pair_entry (pairs_of manifest))) (has_key q (map pair_entry (flat_map pairs_of manifests))) (one_has q manifest tied)
        by more false other is = right_or (has_key q (map pair_entry (pairs_of manifest))) (has_key q (map pair_entry (flat_map pairs_of manifests))) (more is)

  -- whether a tag has the key, and is one of these manifests
  abbrev is_under : List ℕ → List IndexManifest → IndexTag → Bool
  is_under q manifests tag = eq_by_cmp byte_cmp q tag.tag && list_any (λ manifest. is_of manifest.digest tag) manifests

  found_under : (q : List ℕ) (manifests : List IndexManifest) (xs : List IndexTag) (part : TagPart) → AllByRecursion (IsTagOf manifests) xs → find byte_cmp q (map tag_entry xs) ≡ Some part
      → list_any (is_under q manifests) xs ≡ true
  found_under q manifests [] part all h = cc h
  found_under q manifests (tag ∷ xs) part all h = by (found_under q manifests xs part all.1) (eq_by_cmp byte_cmp q tag.tag) h where
    by : (find byte_cmp q (map tag_entry xs) ≡ Some part → list_any (is_under q manifests) xs ≡ true) → (b : Bool) → cond b (Some (tag_entry tag).1) (find byte_cmp q (map tag_entry xs)) ≡ Some part
        → ((b && list_any (λ manifest. is_of manifest.digest tag) manifests) || list_any (is_under q manifests) xs) ≡ true
    by more true is = left_or (list_any (λ manifest. is_of manifest.digest tag) manifests) (list_any (is_under q manifests) xs) all.0.listed
    by more false is = more is

  none_under : (q : List ℕ) (xs : List IndexTag) → list_any (is_under q []) xs ≡ false
  none_under q [] = refl
  none_under q (tag ∷ xs) = by (none_under q xs) (eq_by_cmp byte_cmp q tag.tag) where
    by : list_any (is_under q []) xs ≡ false → (b : Bool) → ((b && false) || list_any (is_under q []) xs) ≡ false
    by more true = more
    by more false = more

  abbrev is_one : List ℕ → IndexManifest → IndexTag → Bool
  is_one q manifest tag = eq_by_cmp byte_cmp q tag.tag && is_of manifest.digest tag

  split_under : (q : List ℕ) (manifest : IndexManifest) (manifests : List IndexManifest) (xs : List IndexTag) → list_any (is_under q (manifest ∷ manifests)) xs ≡ true
      → (list_any (is_one q manifest) xs || list_any (is_under q manifests) xs) ≡ true
  split_under q manifest manifests [] h = h
  split_under q manifest manifests (tag ∷ xs) h =
      by (eq_by_cmp byte_cmp q tag.tag) (is_of manifest.digest tag) (list_any (λ m. is_of m.digest tag) manifests) (list_any (is_under q (manifest ∷ manifests)) xs) h (split_under q manifest manifests xs) where
        by : (a b c rest : Bool) → ((a && (b || c)) || rest) ≡ true → (rest ≡ true → (list_any (is_one q manifest) xs || list_any (is_under q manifests) xs) ≡ true)
            → (((a && b) || list_any (is_one q manifest) xs) || ((a && c) || list_any (is_under q manifests) xs)) ≡ true
        by false b c rest is more = more is
        by true true c rest is more = refl
        by true false true rest is more = right_or (list_any (is_one q manifest) xs) true refl
        by true false false rest is more = more is

  one_of : (q : List ℕ) (manifest : IndexManifest) (xs : List IndexTag) → list_any (is_one q manifest) xs ≡ true → list_any (is_of manifest.digest) xs ≡ true
  one_of q manifest [] h = h
  one_of q manifest (tag ∷ xs) h = by (one_of q manifest xs) (eq_by_cmp byte_cmp q tag.tag) (is_of manifest.digest tag) h where
    by : (list_any (is_one q manifest) xs ≡ true → list_any (is_of manifest.digest) xs ≡ true) → (a b : Bool) → ((a && b) || list_any (is_one q manifest) xs) ≡ true → (b || list_any (is_of manifest.digest) xs) ≡ true
    by more a true is = refl
    by more true false is = more is
    by more false false is = more is

  chosen_has : (q : List ℕ) (manifest : IndexManifest) (xs : List IndexTag) → list_any (is_one q manifest) xs ≡ true
      → has_key q (tag_entries (map (under manifest) (filter (is_of manifest.digest) xs))) ≡ true
  chosen_has q manifest [] h = absurd (true≢false (sym h))
  chosen_has q manifest (tag ∷ xs) h = by (chosen_has q manifest xs) (eq_by_cmp byte_cmp q tag.tag) (is_of manifest.digest tag) refl h where
    by : (list_any (is_one q manifest) xs ≡ true → has_key q (tag_entries (map (under manifest) (filter (is_of manifest.digest) xs))) ≡ true) → (a b : Bool) → eq_by_cmp byte_cmp q tag.tag ≡ a → ((a && b) || list_any (is_one q manifest) xs) ≡ true
        → has_key q (tag_entries (map (under manifest) (if b then tag ∷ filter (is_of manifest.digest) xs else filter (is_of manifest.digest) xs))) ≡ true
    by more true true e is = left_or (eq_by_cmp byte_cmp q tag.tag) (has_key q (tag_entries (map (under manifest) (filter (is_of manifest.digest) xs)))) e
    by more false true e is = right_or (eq_by_cmp byte_cmp q tag.tag) (has_key q (tag_entries (map (under manifest) (filter (is_of manifest.digest) xs)))) (more is)
    by more true false e is = more is
    by more false false e is = more is

  one_has_tag : (q : List ℕ) (manifest : IndexManifest) → list_any (is_one q manifest) tags ≡ true → has_key q (tag_entries (pairs_of manifest)) ≡ true
  one_has_tag q manifest h =
      ap (λ b. has_key q (tag_entries (pairs_by manifest b))) (one_of q manifest tags h) ∙ chosen_has q manifest tags h

  tag_joined : (q : List ℕ) (xs ys : List Pair) → has_key q (tag_entries (xs ++ ys)) ≡ (has_key q (tag_entries xs) || has_key q (tag_entries ys))
  tag_joined q xs ys =
      ap (has_key q) (flat_joined (λ pair. entry_under pair.0.digest pair.1) xs ys) ∙ any_joined (λ e. eq_by_cmp byte_cmp q e.0) (tag_entries xs) (tag_entries ys)

  under_has : (q : List ℕ) (manifests : List IndexManifest) → list_any (is_under q manifests) tags ≡ true → has_key q (tag_entries (flat_map pairs_of manifests)) ≡ true
  under_has q [] h = absurd (true≢false (sym h ∙ none_under q tags))
  under_has q (manifest ∷ manifests) h =
      tag_joined q (pairs_of manifest) (flat_map pairs_of manifests)
      ∙ by (under_has q manifests) (list_any (is_one q manifest) tags) (list_any (is_under q manifests) tags) refl refl (split_under q manifest manifests tags h) where
        by : (list_any (is_under q manifests) tags ≡ true → has_key q (tag_entries (flat_map pairs_of manifests)) ≡ true) → (a b : Bool) → list_any (is_one q manifest) tags ≡ a → list_any (is_under q manifests) tags ≡ b → (a || b) ≡ true
            → (has_key q (tag_entries (pairs_of manifest)) || has_key q (tag_entries (flat_map pairs_of manifests))) ≡ true
        by more true b e f is = left_or (has_key q (tag_entries (pairs_of manifest))) (has_key q (tag_entries (flat_map pairs_of manifests))) (one_has_tag q manifest e)
        by more false true e f is = right_or (has_key q (tag_entries (pairs_of manifest))) (has_key q (tag_entries (flat_map pairs_of manifests))) (more f)
        by more false false e f is = absurd (true≢false (sym is))

-- ---- pairs that are read again

each_back : (pairs : List Pair) → AllByRecursion (λ pair. listed_of (describe pair) ≡ Some (listed pair)) pairs → each listed_of (map describe pairs) ≡ Some (map listed pairs)
each_back [] h = refl
each_back (pair ∷ pairs) h = rw (h.0, each_back pairs h.1) refl

stands : (pairs : List Pair) → list_all may_stand (map listed pairs) ≡ true
stands [] = refl
stands (pair ∷ pairs) = by (stands pairs) pair.1 where
  by : list_all may_stand (map listed pairs) ≡ true → (tag : Option IndexTag) → (is_moment (pushed_by tag) && list_all may_stand (map listed pairs)) ≡ true
  by more None = more
  by more (Some t) = more

manifests_put : (moment : ℕ) (pairs : List Pair) (es : List (List ℕ × ManifestPart)) → with_manifests moment es (map listed pairs) ≡ inserted es (map pair_entry pairs)
manifests_put moment [] es = refl
manifests_put moment (pair ∷ pairs) es = manifests_put moment pairs (insert_entry byte_cmp es pair.0.digest (manifest_part pair.0))

tags_put : (moment : ℕ) (pairs : List Pair) (es : List (List ℕ × TagPart)) → with_tags moment es (map listed pairs) ≡ inserted es (tag_entries pairs)
tags_put moment [] es = refl
tags_put moment (pair ∷ pairs) es = by (tags_put moment pairs) pair.0 pair.1 where
  by : ((fs : List (List ℕ × TagPart)) → with_tags moment fs (map listed pairs) ≡ inserted fs (tag_entries pairs)) → (manifest : IndexManifest) (tag : Option IndexTag)
      → with_tags moment es (listed (manifest, tag) ∷ map listed pairs) ≡ inserted es (entry_under manifest.digest tag ++ tag_entries pairs)
  by more manifest None = more es
  by more manifest (Some tag) = more (insert_entry byte_cmp es tag.tag (record { digest = manifest.digest; pushed = tag.pushed }))

-- ---- the state

module _ (state : IndexState) (is : IsIndex state) where
  abbrev manifests : List IndexManifest
  manifests = state.manifests

  abbrev pub pairs : List Pair
  pairs = flat_map (pairs_of state.tags) manifests

  manifest_keys : IsStrictlySortedBy byte_cmp (map (λ e. e.0) (map manifest_entry manifests))
  manifest_keys = subst (IsStrictlySortedBy byte_cmp) (sym (map_twice manifest_entry (λ e. e.0) (λ manifest. manifest.digest) (λ manifest. refl) manifests)) is.digests_ascend

  tag_keys : IsStrictlySortedBy byte_cmp (map (λ e. e.0) (map tag_entry state.tags))
  tag_keys = subst (IsStrictlySortedBy byte_cmp) (sym (map_twice tag_entry (λ e. e.0) (λ tag. tag.tag) (λ tag. refl) state.tags)) is.tags_ascend

  -- each descriptor is read as it says
  read_pairs : AllByRecursion (λ pair. listed_of (describe pair) ≡ Some (listed pair)) pairs
  read_pairs =
      of_all state.tags (λ pair. listed_of (describe pair) ≡ Some (listed pair)) manifests
      (all_of IsManifest (Each state.tags (λ pair. listed_of (describe pair) ≡ Some (listed pair)))
      (λ manifest real. (
        untagged_back manifest real,
        all_of (IsTagOf manifests) (λ tag. is_of manifest.digest tag ≡ true → listed_of (describe (manifest, Some tag)) ≡ Some (listed (manifest, Some tag)))
            (λ tag may here. tagged_back manifest tag real may.named may.pushed) state.tags is.tags,
      )) manifests is.manifests)

  pub each_read : each listed_of (all_descriptors state) ≡ Some (map listed pairs)
  each_read = ap (each listed_of) (all_described state.tags manifests) ∙ each_back pairs read_pairs

  pub all_stand : list_all may_stand (map listed pairs) ≡ true
  all_stand = stands pairs

  -- the manifests
  found_manifests : AllFound byte_order (map manifest_entry manifests) (map pair_entry pairs)
  found_manifests =
      let at : IndexManifest → Type 0 = λ manifest. find byte_cmp manifest.digest (map manifest_entry manifests) ≡ Some (manifest_part manifest) in
      all_mapped (λ e. find byte_cmp e.0 (map manifest_entry manifests) ≡ Some e.1) pair_entry pairs
      (of_all state.tags (λ pair. at pair.0) manifests
      (all_of at (Each state.tags (λ pair. at pair.0)) (λ manifest found. (found, all_of (IsTagOf manifests) (λ tag. is_of manifest.digest tag ≡ true → at manifest) (λ tag may here. found) state.tags is.tags)) manifests
      (all_unmapped (λ e. find byte_cmp e.0 (map manifest_entry manifests) ≡ Some e.1) manifest_entry manifests (all_found byte_order (map manifest_entry manifests) manifest_keys))))

  manifests_back : (moment : ℕ) → with_manifests moment [] (map listed pairs) ≡ map manifest_entry manifests
  manifests_back moment =
      manifests_put moment pairs []
      ∙ inserted_all (map pair_entry pairs) (map manifest_entry manifests) (entries_ascend byte_cmp (map manifest_entry manifests) manifest_keys) found_manifests (λ q part. manifest_has state.tags q manifests part)

  -- the tags
  abbrev TagFound : IndexTag → Type 0
  TagFound tag = find byte_cmp tag.tag (map tag_entry state.tags) ≡ Some (record { digest = tag.digest; pushed = tag.pushed })

  abbrev EntryFound : List ℕ × TagPart → Type 0
  EntryFound e = find byte_cmp e.0 (map tag_entry state.tags) ≡ Some e.1

  of_digest : (digest : List ℕ) (tag : IndexTag) → TagFound tag → is_of digest tag ≡ true → EntryFound (tag.tag, record { digest = digest; pushed = tag.pushed })
  of_digest digest tag found here = subst (λ d. EntryFound (tag.tag, record { digest = d; pushed = tag.pushed })) ((bytes_eq-Decides tag.digest digest).0 here) found

  all_flat : (xs : List Pair) → AllByRecursion (λ pair. AllByRecursion EntryFound (entry_under pair.0.digest pair.1)) xs → AllByRecursion EntryFound (tag_entries xs)
  all_flat [] h = tt
  all_flat (x ∷ xs) h = all_joined EntryFound (entry_under x.0.digest x.1) (tag_entries xs) h.0 (all_flat xs h.1)

  found_tags : AllFound byte_order (map tag_entry state.tags) (tag_entries pairs)
  found_tags =
      let at : Pair → Type 0 = λ pair. AllByRecursion EntryFound (entry_under pair.0.digest pair.1) in
      all_flat pairs (of_all state.tags at manifests
      (all_of IsManifest (Each state.tags at)
      (λ manifest real. (
        tt,
        all_of TagFound (λ tag. is_of manifest.digest tag ≡ true → at (manifest, Some tag)) (λ tag found here. (of_digest manifest.digest tag found here, tt)) state.tags
            (all_unmapped EntryFound tag_entry state.tags (all_found byte_order (map tag_entry state.tags) tag_keys)),
      )) manifests is.manifests))

  tags_back : (moment : ℕ) → with_tags moment [] (map listed pairs) ≡ map tag_entry state.tags
  tags_back moment =
      tags_put moment pairs []
      ∙ inserted_all (tag_entries pairs) (map tag_entry state.tags) (entries_ascend byte_cmp (map tag_entry state.tags) tag_keys) found_tags
      (λ q part found. under_has state.tags q manifests (found_under state.tags q manifests state.tags part is.tags found))

  -- the state that is read is the one that was written
  pub state_back : (moment : ℕ) → state_of moment (map listed pairs) ≡ as_written state
  state_back moment =
      let one : map manifest_of (with_manifests moment [] (map listed pairs)) ≡ (as_written state).manifests =
      ap (map manifest_of) (manifests_back moment) ∙ map_twice manifest_entry manifest_of _ (λ manifest. refl) manifests in
      let other : map tag_of (with_tags moment [] (map listed pairs)) ≡ state.tags =
      ap (map tag_of) (tags_back moment) ∙ map_twice tag_entry tag_of (λ tag. tag) (λ tag. refl) state.tags ∙ same state.tags in
      λ i. record { manifests = one i; tags = other i }
    where
      same : {A : Type 0} (xs : List A) → map (λ x. x) xs ≡ xs
      same [] = refl
      same (x ∷ xs) = ap (λ rest. x ∷ rest) (same xs)

-- What an index holds of a table, and the lists that are made of trees.
use Rattle.std.proofs.Common.{◌≡◌, ℕ, append_assoc, Bool, true, false, cond, not, List, [], ◌∷◌, ◌++◌, length, map, Option, Some, None, is_some, refl, sym, ap, subst, ◌∙◌, arith, if◌then◌else◌}
use Rattle.std.specs.Prelude.{◌||◌, IsSome}
use Rattle.std.specs.Cmp.Lexicographic.{nat_list_cmp_total}
use Rattle.std.specs.FinMap as finite
use Rattle.std.specs.FinMap.{contains_key-keys, entries_sorted, get-entries, get-remove, get-retain_keys}
use Rattle.std.specs.FinMap.Entries.{find, find-where_key, is_sorted-where_key, same_entries, where_key}
use Rattle.std.specs.List.{AllByRecursion, filter, list_any}
use Rattle.std.specs.List.Sorted.{IsStrictlySortedBy}
use Rattle.std.specs.Ordering.{eq_by_cmp}
use Rattle.std.specs.Str.{bytes_eq}
use Rattle.zot_digest.specs.ByteMap.{ByteMap, byte_cmp, map_of}
use Rattle.zot_layout.specs.State.{IsIndex, IsManifest, IsTagOf}
use Rattle.zot_layout.specs.declared.index_manifest.IndexManifest.{IndexManifest}
use Rattle.zot_layout.specs.declared.index_state.IndexState.{IndexState}
use Rattle.zot_layout.specs.declared.index_tag.IndexTag.{IndexTag}
use Rattle.zot_manifests.proofs.SetLemmas.{same_digest}
use Rattle.zot_manifests.specs.Tags.{AreTags}
use Rattle.zot_manifests.specs.declared.kept.Kept.{Kept}
use Rattle.zot_maps.proofs.Entries.{all_found, entries_of_map, keys_ordered}
use Rattle.zot_maps.proofs.Maps.{byte_order, tied_keys}
use Rattle.zot_media.specs.declared.reference.Reference.{Reference}
use Rattle.zot_media.specs.declared.reference.Reference.TheVariants as by
use Rattle.zot_model.specs.Manifests.{is_tag_of, without_tags_of}
use Rattle.zot_model.specs.State.{StoredTag}
use Rattle.zot_names.specs.Tag.{IsTag}
use Rattle.zot_table.proofs.KeepingLemmas.{tagged_gone, tagged_untagged}
use Rattle.zot_table.specs.Changes.{left_by}
use Rattle.zot_table.specs.Keeping.{NoneUnread}
use Rattle.zot_table.specs.Leaving.{IsNamed, is_manifest_left, is_tag_left}
use Rattle.zot_table.specs.Tables.{AreTagged, RepoTable, Slots, entry_at, index_manifest, index_of, index_tag, is_unread, unread_in}

-- ---- lists that are made of those entries that pass a test

module _ {A B : Type 0} (passes : A → Bool) (shows : A → B) where
  -- one entry more was looked at
  pub listed_more : (whole made new : List B) (e : A) (rest : List A) → whole ≡ made ++ map shows (filter passes (e ∷ rest)) → new ≡ made ++ (if passes e then shows e ∷ [] else []) → whole ≡ new ++ map shows (filter passes rest)
  listed_more whole made new e rest all is = split (passes e) all is where
    split : (b : Bool) → whole ≡ made ++ map shows (cond b (e ∷ filter passes rest) (filter passes rest)) → new ≡ made ++ (if b then shows e ∷ [] else []) → whole ≡ new ++ map shows (filter passes rest)
    split true h k = h ∙ sym (append_assoc made (shows e ∷ []) (map shows (filter passes rest))) ∙ ap (λ l. l ++ map shows (filter passes rest)) (sym k)
    split false h k = h ∙ ap (λ l. l ++ map shows (filter passes rest)) (sym (k ∙ append_empty made)) where
      append_empty : (l : List B) → l ++ [] ≡ l
      append_empty [] = refl
      append_empty (x ∷ xs) = ap (λ l. x ∷ l) (append_empty xs)

-- all elements have what one more does
pub all_more : {A : Type 0} (P : A → Type 0) (made : List A) (x : A) → AllByRecursion P made → P x → AllByRecursion P (made ++ x ∷ [])
all_more P [] x all here = (here, tt)
all_more P (y ∷ made) x all here = (all.0, all_more P made x all.1 here)

-- a test of what is shown
pub filter_shown : {A B : Type 0} (passes : B → Bool) (shows : A → B) (es : List A) → filter passes (map shows es) ≡ map shows (filter (λ e. passes (shows e)) es)
filter_shown passes shows [] = refl
filter_shown passes shows (e ∷ es) =
    elim (passes (shows e)) as (λ b. cond b (shows e ∷ filter passes (map shows es)) (filter passes (map shows es)) ≡ map shows (cond b (e ∷ filter (λ x. passes (shows x)) es) (filter (λ x. passes (shows x)) es))) [
      | true ↦ ap (λ l. shows e ∷ l) (filter_shown passes shows es)
      | false ↦ filter_shown passes shows es
    ]

-- two tests that say the same of each
filter_alike : {A : Type 0} (f g : A → Bool) (es : List A) → AllByRecursion (λ e. f e ≡ g e) es → filter f es ≡ filter g es
filter_alike f g [] h = refl
filter_alike f g (e ∷ es) h =
    ap (λ b. cond b (e ∷ filter f es) (filter f es)) h.0
    ∙ elim (g e) as (λ b. cond b (e ∷ filter f es) (filter f es) ≡ cond b (e ∷ filter g es) (filter g es)) [
      | true ↦ ap (λ l. e ∷ l) (filter_alike f g es h.1)
      | false ↦ filter_alike f g es h.1
    ]

-- a test that none passes
filter_none : {A : Type 0} (f : A → Bool) (es : List A) → AllByRecursion (λ e. f e ≡ false) es → filter f es ≡ []
filter_none f [] h = refl
filter_none f (e ∷ es) h = ap (λ b. cond b (e ∷ filter f es) (filter f es)) h.0 ∙ filter_none f es h.1

filter_all : {A : Type 0} (es : List A) → filter (λ e. true) es ≡ es
filter_all [] = refl
filter_all (e ∷ es) = ap (λ l. e ∷ l) (filter_all es)

each_from : {A : Type 0} (P Q : A → Type 0) (h : (e : A) → P e → Q e) (es : List A) → AllByRecursion P es → AllByRecursion Q es
each_from P Q h [] all = tt
each_from P Q h (e ∷ es) all = (h e all.0, each_from P Q h es all.1)

-- ---- the entries of maps

module _ {X : Type 0} where
  -- it is found under its key
  abbrev pub IsFound : ByteMap X → List ℕ × X → Type 0
  IsFound m e = finite.get m e.0 ≡ Some e.1

  entry_found : (m : ByteMap X) → AllByRecursion (IsFound m) (finite.entries m)
  entry_found m = each_from (λ (e : List ℕ × X). find byte_cmp e.0 (finite.entries m) ≡ Some e.1) (IsFound m) (λ e h. get-entries m e.0 ∙ h) (finite.entries m) (all_found byte_order (finite.entries m) (keys_ordered byte_cmp m))

  -- the entries of a map that keeps those whose keys pass a test
  entries_where : (m n : ByteMap X) (test : List ℕ → Bool) → ((q : List ℕ) → finite.get n q ≡ cond (test q) (finite.get m q) None) → finite.entries n ≡ filter (λ (e : List ℕ × X). test e.0) (finite.entries m)
  entries_where m n test h =
      same_entries byte_cmp byte_order.total byte_order.antisymmetric (finite.entries n) (where_key byte_cmp test (finite.entries m)) (entries_sorted n) (is_sorted-where_key byte_cmp test (finite.entries m) (entries_sorted m))
      (λ q. sym (get-entries n q) ∙ h q ∙ ap (λ o. cond (test q) o None) (get-entries m q) ∙ sym (find-where_key byte_cmp test q (λ x same. ap test (sym (byte_order.antisymmetric q x same))) (finite.entries m)))

  turned : (b : Bool) (found : Option X) → cond b None found ≡ cond (not b) found None
  turned true found = refl
  turned false found = refl

  -- those of a map without a key
  entries_without : (m : ByteMap X) (key : List ℕ) → finite.entries (finite.remove m key) ≡ filter (λ (e : List ℕ × X). not (bytes_eq e.0 key)) (finite.entries m)
  entries_without m key =
      entries_where m (finite.remove m key) (λ q. not (bytes_eq q key))
      (λ q. get-remove nat_list_cmp_total m key q ∙ turned (eq_by_cmp byte_cmp q key) (finite.get m q) ∙ ap (λ b. cond (not b) (finite.get m q) None) (same_digest q key))

-- those of the tags but a manifest's
tags_without : (tags : ByteMap StoredTag) (digest : List ℕ) → finite.entries (without_tags_of tags digest) ≡ filter (λ (e : List ℕ × StoredTag). not (bytes_eq e.1.digest digest)) (finite.entries tags)
tags_without tags digest =
    entries_where tags (without_tags_of tags digest) (λ tag. not (is_tag_of digest (finite.get tags tag)))
    (λ q. get-retain_keys tags (λ tag. not (is_tag_of digest (finite.get tags tag))) q (λ x same. ap (λ tag. not (is_tag_of digest (finite.get tags tag))) (sym (byte_order.antisymmetric q x same))))
    ∙ filter_alike (λ e. not (is_tag_of digest (finite.get tags e.0))) (λ e. not (bytes_eq e.1.digest digest)) (finite.entries tags)
    (each_from (IsFound tags) (λ e. not (is_tag_of digest (finite.get tags e.0)) ≡ not (bytes_eq e.1.digest digest)) (λ e h. ap (λ o. not (is_tag_of digest o)) h) (finite.entries tags) (entry_found tags))

-- ---- what is left but for what a reference names

module _ (repo : RepoTable) where
  pub manifests_left : (gone : Option Reference) → finite.entries (left_by repo gone).table.manifests ≡ filter (λ (e : List ℕ × Kept). is_manifest_left gone e.0) (finite.entries repo.table.manifests)
  manifests_left None = sym (filter_all (finite.entries repo.table.manifests))
  manifests_left (Some (by.Tag tag)) = sym (filter_all (finite.entries repo.table.manifests))
  manifests_left (Some (by.Digest digest)) = entries_without repo.table.manifests digest

  pub tags_left : (gone : Option Reference) → finite.entries (left_by repo gone).table.tags ≡ filter (λ (e : List ℕ × StoredTag). is_tag_left gone e.0 e.1.digest) (finite.entries repo.table.tags)
  tags_left None = sym (filter_all (finite.entries repo.table.tags))
  tags_left (Some (by.Tag tag)) = entries_without repo.table.tags tag
  tags_left (Some (by.Digest digest)) = tags_without repo.table.tags digest

  same_slots : (gone : Option Reference) → (left_by repo gone).slots ≡ repo.slots
  same_slots None = refl
  same_slots (Some (by.Tag tag)) = refl
  same_slots (Some (by.Digest digest)) = refl

  pub tagged_left : (gone : Option Reference) → AreTagged repo.table → AreTagged (left_by repo gone).table
  tagged_left None tagged = tagged
  tagged_left (Some (by.Tag tag)) tagged = tagged_untagged repo.table tag tagged
  tagged_left (Some (by.Digest digest)) tagged = tagged_gone repo.table digest tagged

  -- the index of what is left
  pub index_left : (gone : Option Reference) (manifests : List IndexManifest) (tags : List IndexTag)
      → manifests ≡ map (index_manifest repo.slots) (filter (λ e. is_manifest_left gone e.0) (finite.entries repo.table.manifests)) → tags ≡ map index_tag (filter (λ e. is_tag_left gone e.0 e.1.digest) (finite.entries repo.table.tags))
      → ◌≡◌ {A = IndexState} (record { manifests = manifests; tags = tags }) (index_of (left_by repo gone))
  index_left gone manifests tags ms ts =
      ap (λ (l : List IndexManifest). record { manifests = l; tags = tags })
      (ms ∙ ap (λ (s : Slots). map (index_manifest s) (filter (λ (e : List ℕ × Kept). is_manifest_left gone e.0) (finite.entries repo.table.manifests))) (sym (same_slots gone))
      ∙ ap (λ (l : List (List ℕ × Kept)). map (index_manifest (left_by repo gone).slots) l) (sym (manifests_left gone)))
      ∙ ap (λ (l : List IndexTag). record { manifests = map (index_manifest (left_by repo gone).slots) (finite.entries (left_by repo gone).table.manifests); tags = l })
      (ts ∙ ap (λ (l : List (List ℕ × StoredTag)). map index_tag l) (sym (tags_left gone)))

-- ---- it is an index

module _ (repo : RepoTable) (tagged : AreTagged repo.table) where
  digests_same : (es : List (List ℕ × Kept)) → map (λ (m : IndexManifest). m.digest) (map (index_manifest repo.slots) es) ≡ map (λ e. e.0) es
  digests_same [] = refl
  digests_same (e ∷ es) = ap (λ l. e.0 ∷ l) (digests_same es)

  tags_same : (es : List (List ℕ × StoredTag)) → map (λ (t : IndexTag). t.tag) (map index_tag es) ≡ map (λ e. e.0) es
  tags_same [] = refl
  tags_same (e ∷ es) = ap (λ l. e.0 ∷ l) (tags_same es)

  any_of : (digest : List ℕ) (es : List (List ℕ × Kept)) → list_any (eq_by_cmp byte_cmp digest) (map (λ e. e.0) es) ≡ list_any (λ (m : IndexManifest). bytes_eq digest m.digest) (map (index_manifest repo.slots) es)
  any_of digest [] = refl
  any_of digest (e ∷ es) = ap (λ b. b || list_any (eq_by_cmp byte_cmp digest) (map (λ x. x.0) es)) (same_digest digest e.0) ∙ ap (λ b. bytes_eq digest e.0 || b) (any_of digest es)

  each_listed : (es : List (List ℕ × StoredTag)) → AllByRecursion (IsFound repo.table.tags) es → AllByRecursion IsNamed (map index_tag es)
      → AllByRecursion (IsTagOf (map (index_manifest repo.slots) (finite.entries repo.table.manifests))) (map index_tag es)
  each_listed [] found named = tt
  each_listed (e ∷ es) found named = (
    record {
      named = named.0.named;
      pushed = named.0.pushed;
      listed = sym (any_of e.1.digest (finite.entries repo.table.manifests)) ∙ sym (contains_key-keys repo.table.manifests e.1.digest) ∙ tagged e.0 e.1 found.0;
    },
    each_listed es found.1 named.1,
  )

  pub is_index : (state : IndexState) → state ≡ index_of repo → AllByRecursion IsManifest state.manifests → AllByRecursion IsNamed state.tags → IsIndex state
  is_index state is ms ts = subst (λ (s : IndexState). IsIndex s) (sym is) (record {
    manifests = subst (λ (s : IndexState). AllByRecursion IsManifest s.manifests) is ms;
    tags = each_listed (finite.entries repo.table.tags) (entry_found repo.table.tags) (subst (λ (s : IndexState). AllByRecursion IsNamed s.tags) is ts);
    digests_ascend = subst (λ l. IsStrictlySortedBy byte_cmp l) (sym (digests_same (finite.entries repo.table.manifests))) (keys_ordered byte_cmp repo.table.manifests);
    tags_ascend = subst (λ l. IsStrictlySortedBy byte_cmp l) (sym (tags_same (finite.entries repo.table.tags))) (keys_ordered byte_cmp repo.table.tags);
  })

-- ---- the entries of a tree

-- those of the map that they make
pub tree_entries : {X : Type 0} (es : List (List ℕ × X)) (m : ByteMap X) → map_of es ≡ m → IsStrictlySortedBy byte_cmp (map (λ e. e.0) es) → es ≡ finite.entries m
tree_entries es m is sorted = sym (ap finite.entries (sym is) ∙ entries_of_map byte_order es sorted)

-- each text in a tree of tags is one
pub each_tag : (es : List (List ℕ × StoredTag)) → AreTags (map_of es) → IsStrictlySortedBy byte_cmp (map (λ e. e.0) es) → AllByRecursion (λ e. IsTag e.0) es
each_tag es are sorted =
    each_from (IsFound (map_of es)) (λ e. IsTag e.0) (λ e h. are e.0 (subst (λ o. IsSome o) (sym h) refl)) es
    (subst (λ (l : List (List ℕ × StoredTag)). AllByRecursion (IsFound (map_of es)) l) (entries_of_map byte_order es sorted) (entry_found (map_of es)))

-- ---- which manifests are left to be read

-- a list of no length
pub empty_list : {A : Type 0} (items : List A) → length items ≡ 0 → items ≡ []
empty_list [] h = refl
empty_list (x ∷ items) h = absurd (omega (arith, h))

module _ (repo : RepoTable) where
  abbrev unread_at : List ℕ → Bool
  unread_at digest = is_unread (entry_at repo.slots digest)

  shown : unread_in repo ≡ map (λ e. e.0) (filter (λ (e : List ℕ × Kept). unread_at e.0) (finite.entries repo.table.manifests))
  shown = filter_shown unread_at (λ (e : List ℕ × Kept). e.0) (finite.entries repo.table.manifests)

  -- none, where none is unread
  pub none_left : NoneUnread repo.slots repo.table.manifests → unread_in repo ≡ []
  none_left none =
      shown
      ∙ ap (λ (l : List (List ℕ × Kept)). map (λ e. e.0) l)
      (filter_none (λ (e : List ℕ × Kept). unread_at e.0) (finite.entries repo.table.manifests)
      (each_from (IsFound repo.table.manifests) (λ e. unread_at e.0 ≡ false) (λ e h. none e.0 (ap is_some h)) (finite.entries repo.table.manifests) (entry_found repo.table.manifests)))

  -- those that are left in the entries of a tree
  pub listed_left : (es : List (List ℕ × Kept)) (items : List (List ℕ)) → map_of es ≡ repo.table.manifests → IsStrictlySortedBy byte_cmp (map (λ e. e.0) es) → items ≡ map (λ e. e.0) (filter (λ (e : List ℕ × Kept). unread_at e.0) es)
      → items ≡ unread_in repo
  listed_left es items are sorted is =
      is ∙ ap (λ (l : List (List ℕ × Kept)). map (λ e. e.0) (filter (λ (e : List ℕ × Kept). unread_at e.0) l)) (tree_entries es repo.table.manifests are sorted) ∙ sym shown

  none_passes : (digest : List ℕ) (keys : List (List ℕ)) → list_any (eq_by_cmp byte_cmp digest) keys ≡ true → filter unread_at keys ≡ [] → unread_at digest ≡ false
  none_passes digest [] any none = cc any
  none_passes digest (key ∷ keys) any none =
      elim (unread_at key) as (λ b. unread_at key ≡ b → cond b (key ∷ filter unread_at keys) (filter unread_at keys) ≡ [] → unread_at digest ≡ false) [
        | true ↦ λ _ h. cc h
        | false ↦ λ is h.
            elim (eq_by_cmp byte_cmp digest key) as (λ b. eq_by_cmp byte_cmp digest key ≡ b → (b || list_any (eq_by_cmp byte_cmp digest) keys) ≡ true → unread_at digest ≡ false) [
              | true ↦ λ tied _. ap unread_at (tied_keys byte_order digest key tied) ∙ is
              | false ↦ λ _ k. none_passes digest keys k h
            ] refl any
      ] refl none

  -- where none is left, none is unread
  pub all_were_read : unread_in repo ≡ [] → NoneUnread repo.slots repo.table.manifests
  all_were_read none digest has = none_passes digest (finite.keys repo.table.manifests) (sym (contains_key-keys repo.table.manifests digest) ∙ has) none

-- The table of a repository that an index opens.
use Rattle.std.proofs.Common.{◌≡◌, ℕ, true, false, cond, List, [], ◌∷◌, map, Option, Some, refl, sym, ap, subst, ◌∙◌, unwrap_or}
use Rattle.std.specs.Prelude.{◌||◌}
use Rattle.std.specs.Cmp.Lexicographic.{nat_list_cmp_total}
use Rattle.std.specs.FinMap as finite
use Rattle.std.specs.FinMap.{contains_key-keys, entries-insert, get-empty, get-from_entries, len-empty, len-entries, same_entries_map}
use Rattle.std.specs.FinMap.Entries.{find}
use Rattle.std.specs.List.{AllByRecursion, list_any}
use Rattle.std.specs.List.Sorted.{IsStrictlySortedBy}
use Rattle.std.specs.Map.{keys_of}
use Rattle.std.specs.Ordering.{eq_by_cmp}
use Rattle.std.specs.Str.{bytes_eq}
use Rattle.zot_digest.specs.ByteMap.{ByteMap, byte_cmp, map_of}
use Rattle.zot_layout.proofs.SortLemmas.{has_key, inserted, inserted_all, same_put}
use Rattle.zot_layout.specs.Stands.{opened_tag}
use Rattle.zot_layout.specs.State.{IsIndex, IsTagOf}
use Rattle.zot_layout.specs.declared.index_manifest.IndexManifest.{IndexManifest}
use Rattle.zot_layout.specs.declared.index_state.IndexState.{IndexState}
use Rattle.zot_layout.specs.declared.index_tag.IndexTag.{IndexTag}
use Rattle.zot_manifests.proofs.SetLemmas.{same_digest}
use Rattle.zot_manifests.specs.Index.{Sets}
use Rattle.zot_manifests.specs.Table.{Table}
use Rattle.zot_manifests.specs.declared.kept.Kept.{Kept}
use Rattle.zot_maps.proofs.Entries.{all_found, entries_ascend, entries_of_map}
use Rattle.zot_maps.proofs.Maps.{byte_order}
use Rattle.zot_media.specs.Manifest.{empty_reading}
use Rattle.zot_media.specs.declared.reading.Reading.{Reading}
use Rattle.zot_model.specs.State.{StoredTag}
use Rattle.zot_referrers.specs.Listing.{says_of}
use Rattle.zot_table.proofs.LeavingLemmas.{empty_list}
use Rattle.zot_table.specs.Keeping.{IsKept}
use Rattle.zot_table.specs.Opening.{opened_kept, opened_table, put_each}
use Rattle.zot_table.specs.Tables.{Slots, entry_at, filled, is_unread}

-- ---- entries that are put in one after another

module _ {X : Type 0} where
  entries_empty : finite.entries (finite.empty {X = X} {R = byte_cmp}) ≡ []
  entries_empty = empty_list (finite.entries (finite.empty {X = X} {R = byte_cmp})) (sym (len-entries (finite.empty {X = X} {R = byte_cmp})) ∙ len-empty byte_cmp X)

  each_entries : (m : ByteMap X) (es : List (List ℕ × X)) → finite.entries (put_each m es) ≡ inserted (finite.entries m) es
  each_entries m [] = refl
  each_entries m (e ∷ es) =
      each_entries (finite.insert m e.0 e.1) es
      ∙ ap (λ (l : List (List ℕ × X)). inserted l es) (entries-insert nat_list_cmp_total m e.0 e.1 ∙ sym (same_put (finite.entries m) e.0 e.1))

  key_there : (q : List ℕ) (v : X) (es : List (List ℕ × X)) → find byte_cmp q es ≡ Some v → has_key q es ≡ true
  key_there q v [] h = cc h
  key_there q v (e ∷ es) h =
      elim (eq_by_cmp byte_cmp q e.0) as (λ b. cond b (Some e.1) (find byte_cmp q es) ≡ Some v → (b || has_key q es) ≡ true) [
        | true ↦ λ _. refl
        | false ↦ λ k. key_there q v es k
      ] h

  -- they make the map of the entries, where these ascend
  pub put_sorted : (es : List (List ℕ × X)) → IsStrictlySortedBy byte_cmp (keys_of es) → put_each finite.empty es ≡ map_of es
  put_sorted es sorted =
      same_entries_map (put_each finite.empty es) (map_of es)
      (each_entries finite.empty es ∙ ap (λ (l : List (List ℕ × X)). inserted l es) entries_empty
      ∙ inserted_all es es (entries_ascend byte_cmp es sorted) (all_found byte_order es sorted) (λ q v h. key_there q v es h)
      ∙ sym (entries_of_map byte_order es sorted))

-- ---- those of an index

manifest_keys : (manifests : List IndexManifest) → keys_of (map opened_kept manifests) ≡ map (λ (m : IndexManifest). m.digest) manifests
manifest_keys [] = refl
manifest_keys (m ∷ manifests) = ap (λ l. m.digest ∷ l) (manifest_keys manifests)

tag_keys : (tags : List IndexTag) → keys_of (map opened_tag tags) ≡ map (λ (t : IndexTag). t.tag) tags
tag_keys [] = refl
tag_keys (t ∷ tags) = ap (λ l. t.tag ∷ l) (tag_keys tags)

-- what is kept of one that is found says nothing
pub says_nothing : (q : List ℕ) (kept : Kept) (manifests : List IndexManifest) → find byte_cmp q (map opened_kept manifests) ≡ Some kept → kept.reading ≡ empty_reading
says_nothing q kept [] h = cc h
says_nothing q kept (m ∷ manifests) h =
    elim (eq_by_cmp byte_cmp q m.digest) as (λ b. cond b (Some (opened_kept m).1) (find byte_cmp q (map opened_kept manifests)) ≡ Some kept → kept.reading ≡ empty_reading) [
      | true ↦ λ k. sym (ap (λ (o : Option Kept). (unwrap_or o kept).reading) k)
      | false ↦ λ k. says_nothing q kept manifests k
    ] h

-- a tag that is found is one of a listed manifest
tag_listed : (q : List ℕ) (stored : StoredTag) (manifests : List IndexManifest) (tags : List IndexTag) → AllByRecursion (IsTagOf manifests) tags → find byte_cmp q (map opened_tag tags) ≡ Some stored
    → list_any (λ (m : IndexManifest). bytes_eq stored.digest m.digest) manifests ≡ true
tag_listed q stored manifests [] all h = cc h
tag_listed q stored manifests (t ∷ tags) all h =
    elim (eq_by_cmp byte_cmp q t.tag) as (λ b. cond b (Some (opened_tag t).1) (find byte_cmp q (map opened_tag tags)) ≡ Some stored → list_any (λ (m : IndexManifest). bytes_eq stored.digest m.digest) manifests ≡ true) [
      | true ↦ λ k. subst (λ d. list_any (λ (m : IndexManifest). bytes_eq d m.digest) manifests ≡ true) (ap (λ (o : Option StoredTag). (unwrap_or o stored).digest) k) all.0.listed
      | false ↦ λ k. tag_listed q stored manifests tags all.1 k
    ] h

any_key : (digest : List ℕ) (manifests : List IndexManifest) → list_any (eq_by_cmp byte_cmp digest) (keys_of (map opened_kept manifests)) ≡ list_any (λ (m : IndexManifest). bytes_eq digest m.digest) manifests
any_key digest [] = refl
any_key digest (m ∷ manifests) = ap (λ b. b || list_any (eq_by_cmp byte_cmp digest) (keys_of (map opened_kept manifests))) (same_digest digest m.digest) ∙ ap (λ b. bytes_eq digest m.digest || b) (any_key digest manifests)

module _ (index : IndexState) (is : IsIndex index) where
  pub manifests_ascend : IsStrictlySortedBy byte_cmp (keys_of (map opened_kept index.manifests))
  manifests_ascend = subst (λ l. IsStrictlySortedBy byte_cmp l) (sym (manifest_keys index.manifests)) is.digests_ascend

  tags_ascend : IsStrictlySortedBy byte_cmp (keys_of (map opened_tag index.tags))
  tags_ascend = subst (λ l. IsStrictlySortedBy byte_cmp l) (sym (tag_keys index.tags)) is.tags_ascend

  -- the manifests and tags that were put are those of the index
  pub table_is : (table : Table) → table ≡ record { manifests = put_each finite.empty (map opened_kept index.manifests); tags = put_each finite.empty (map opened_tag index.tags) } → table ≡ (opened_table index).table
  table_is table made =
      made ∙ ap (λ (m : ByteMap Kept). record { manifests = m; tags = put_each finite.empty (map opened_tag index.tags) }) (put_sorted (map opened_kept index.manifests) manifests_ascend)
      ∙ ap (λ (t : ByteMap StoredTag). record { manifests = map_of (map opened_kept index.manifests); tags = t }) (put_sorted (map opened_tag index.tags) tags_ascend)

  pub found_kept : (q : List ℕ) (found : Option Kept) → finite.get (opened_table index).table.manifests q ≡ found → find byte_cmp q (map opened_kept index.manifests) ≡ found
  found_kept q found h = sym (get-from_entries nat_list_cmp_total (map opened_kept index.manifests) q) ∙ h

  -- the parts keep what they do
  pub kept_opened : (slots : Slots) (table : Table) (sets : Sets (List ℕ)) → slots ≡ finite.empty → table ≡ (opened_table index).table → IsKept slots table sets true true
  kept_opened slots table sets none opened = record {
    subjects = λ _ key named kept found says.
        cc (sym says ∙ ap (λ (r : Reading). says_of r named) (says_nothing key kept index.manifests (found_kept key (Some kept) (ap (λ (t : Table). finite.get t.manifests key) (sym opened) ∙ found))));
    tagged = λ tag stored has.
        ap (λ (t : Table). finite.contains_key t.manifests stored.digest) opened
        ∙ contains_key-keys (opened_table index).table.manifests stored.digest
        ∙ ap (λ (l : List (List ℕ × Kept)). list_any (eq_by_cmp byte_cmp stored.digest) (keys_of l)) (entries_of_map byte_order (map opened_kept index.manifests) manifests_ascend)
        ∙ any_key stored.digest index.manifests
        ∙ tag_listed tag stored index.manifests index.tags is.tags (sym (get-from_entries nat_list_cmp_total (map opened_tag index.tags) tag) ∙ ap (λ (t : Table). finite.get t.tags tag) (sym opened) ∙ has);
    read = λ _ q has. ap (λ (s : Slots). is_unread (entry_at s q)) none ∙ ap (λ o. is_unread (filled o)) (get-empty byte_cmp q);
  }

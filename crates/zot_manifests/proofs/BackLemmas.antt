-- What was replaced is put back.
use Rattle.std.proofs.Common.{◌≡◌, ◌≢◌, ℕ, Bool, true, false, cond, not, List, [], ◌∷◌, map, Option, Some, None, is_some, refl, sym, ap, subst, ◌∙◌}
use Rattle.std.specs.Prelude.{Result, Ok, Err, OnErr, OnOk, IsSome, IsTrue, is_ok}
use Rattle.std.specs.BTreeMap.{is_at}
use Rattle.std.specs.FinMap as finite
use Rattle.std.specs.List.{filter, list_any}
use Rattle.std.specs.List.Sorted.{IsStrictlySortedBy}
use Rattle.std.specs.Map.{keys_of, lookup}
use Rattle.std.specs.Str.{bytes_eq}
use Rattle.std.proofs.lemmas.Map.Entries.{option_filter}
use Rattle.std.proofs.lemmas.Slice.Eq.{bytes_eq-Decides}
use Rattle.zot_digest.specs.ByteMap.{ByteMap, byte_cmp, map_of}
use Rattle.zot_manifests.proofs.IndexLemmas.{is_now, lists_insert, others_stay}
use Rattle.zot_manifests.proofs.SetLemmas.{adds_keep, just_keep}
use Rattle.zot_manifests.proofs.TableLemmas.{referred_by}
use Rattle.zot_manifests.proofs.TagIndexLemmas.{get_without, names}
use Rattle.zot_manifests.specs.Index.{Adds, KeepsAll, KeepsJust, ListsAll, Removes, Sets, has}
use Rattle.zot_manifests.specs.Table.{is_referred}
use Rattle.zot_manifests.specs.Tags.{AreTags, ListsTags}
use Rattle.zot_manifests.specs.declared.kept.Kept.{Kept}
use Rattle.zot_maps.proofs.Entries.{entries_of_map}
use Rattle.zot_maps.proofs.Maps.{byte_order, found_at, get-filtered, same_map}
use Rattle.zot_media.specs.References.{refers}
use Rattle.zot_model.specs.Manifests.{is_tag_of, without_tags_of}
use Rattle.zot_model.specs.State.{StoredTag}
use Rattle.zot_names.specs.Tag.{IsTag}

-- ---- a tag that is there

none_there : {X : Type 0} (found : Option X) → found ≡ None → is_some found ≡ true → ⊥
none_there None h is = cc is
none_there (Some x) h is = cc h

-- what a tree hasn't isn't there
pub no_tag : (es : List (List ℕ × StoredTag)) (tags : ByteMap StoredTag) (text tag : List ℕ) → map_of es ≡ tags → text ≡ tag → None ≡ lookup (is_at (byte_cmp text)) es → finite.contains_key tags tag ≡ true → ⊥
no_tag es tags text tag is same none has = none_there (finite.get tags tag) (ap (finite.get tags) (sym same) ∙ found_at byte_order es tags text None is none) has

-- ---- the tags of a manifest go, by a look at all

filtered_alike : (digest : List ℕ) (found : Option StoredTag) → option_filter (λ (s : StoredTag). not (bytes_eq s.digest digest)) found ≡ cond (not (is_tag_of digest found)) found None
filtered_alike digest None = refl
filtered_alike digest (Some s) = refl

pub all_without : (es fs : List (List ℕ × StoredTag)) (digest : List ℕ) → IsStrictlySortedBy byte_cmp (keys_of es) → fs ≡ filter (λ e. not (bytes_eq e.1.digest digest)) es → map_of fs ≡ without_tags_of (map_of es) digest
all_without es fs digest sorted is = same_map byte_order (map_of fs) (without_tags_of (map_of es) digest) (λ q.
    get-filtered byte_order (λ (s : StoredTag). not (bytes_eq s.digest digest)) es fs q sorted is ∙ filtered_alike digest (finite.get (map_of es) q) ∙ sym (get_without (map_of es) digest q))

pub fewer_tags : (old new : ByteMap StoredTag) (digest : List ℕ) → new ≡ without_tags_of old digest → AreTags old → AreTags new
fewer_tags old new digest is are q has =
    are q (split (not (is_tag_of digest (finite.get old q))) (finite.get old q) (subst (λ o. IsSome o) (ap (λ m. finite.get m q) is ∙ get_without old digest q) has)) where
      split : (b : Bool) (found : Option StoredTag) → IsSome (cond b found None) → IsSome found
      split true found h = h
      split false found h = cc h

-- ---- what is listed again

module _ {X E : Type 0} (result : Result X E) (digest text : List ℕ) (before after : Sets (List ℕ)) where
  pub list_keeps : OnOk result (Adds byte_cmp (bytes_eq digest) text before after) → OnErr result (KeepsJust byte_cmp before after) → KeepsAll byte_cmp before after
  list_keeps ok err = by_result result ok err where
    by_result : (r : Result X E) → OnOk r (Adds byte_cmp (bytes_eq digest) text before after) → OnErr r (KeepsJust byte_cmp before after) → KeepsAll byte_cmp before after
    by_result (Ok x) adds k = adds_keep byte_cmp (bytes_eq digest) text before after adds
    by_result (Err e) k just = just_keep byte_cmp before after just

  pub list_has : is_ok result ≡ true → OnOk result (Adds byte_cmp (bytes_eq digest) text before after) → has byte_cmp after digest text ≡ true
  list_has is ok = by_result result is ok where
    by_result : (r : Result X E) → is_ok r ≡ true → OnOk r (Adds byte_cmp (bytes_eq digest) text before after) → has byte_cmp after digest text ≡ true
    by_result (Ok x) k adds = is_now true (bytes_eq digest) text before after adds digest ((bytes_eq-Decides digest digest).1 refl)
    by_result (Err e) k adds = cc k

pub where_ok : {X E P : Type 0} (result : Result X E) → is_ok result ≡ true → OnOk result P → P
where_ok (Ok x) is h = h
where_ok (Err e) is h = cc is

-- a tag that is there is set to another manifest, and listed under it
pub lists_again : (old new : ByteMap StoredTag) (before mid after : Sets (List ℕ)) (tag : List ℕ) (entry : StoredTag) → new ≡ finite.insert old tag entry
    → Removes byte_cmp (λ digest. is_tag_of digest (finite.get old tag)) tag before mid → KeepsAll byte_cmp mid after → has byte_cmp after entry.digest tag ≡ true → ListsTags old before → ListsTags new after
lists_again old new before mid after tag entry is removes keeps own all =
    lists_insert names old new before after tag entry is
    (λ named other apart h. keeps named other (others_stay false (λ digest. is_tag_of digest (finite.get old tag)) tag before mid removes named other apart h))
    (λ named says. subst (λ d. has byte_cmp after d tag ≡ true) ((bytes_eq-Decides entry.digest named).0 says) own) all

-- a manifest is another one, and listed under what it refers to
pub refers_again : (old new : ByteMap Kept) (before after : Sets (List ℕ)) (digest : List ℕ) (kept : Kept) → new ≡ finite.insert old digest kept → Adds byte_cmp (refers kept.reading) digest before after → ListsAll old before → ListsAll new after
refers_again old new before after digest kept is adds all =
    lists_insert referred_by old new before after digest kept is (λ named other apart h. adds_keep byte_cmp (refers kept.reading) digest before after adds named other h)
    (is_now true (refers kept.reading) digest before after adds) all

-- what some manifest of a map refers to, by a tree's entries
pub any_in_tree : (es : List (List ℕ × Kept)) (digest : List ℕ) → IsStrictlySortedBy byte_cmp (map (λ e. e.0) es) → is_referred (map_of es) digest ≡ list_any (λ entry. refers entry.1.reading digest) es
any_in_tree es digest sorted = ap (λ (l : List (List ℕ × Kept)). list_any (λ (entry : List ℕ × Kept). refers entry.1.reading digest) l) (entries_of_map byte_order es sorted)

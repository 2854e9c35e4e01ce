-- The manifests that stand under a digest in the index are those of the list from scratch.
use Rattle.std.proofs.Common.{◌≡◌, ℕ, Bool, true, false, cond, List, [], ◌∷◌, ◌++◌, map, Option, Some, None, is_some, Global, Vec, refl, sym, ap, ◌∙◌, unwrap_or}
use Rattle.std.specs.Prelude.{◌&&◌, IfOk, OnOk, Result, Ok, Err}
use Rattle.std.specs.BTreeMap.{get}
use Rattle.std.specs.BTreeSet.{BTreeSet}
use Rattle.std.specs.FinMap as finite
use Rattle.std.specs.FinMap.{contains_key-keys, get-entries}
use Rattle.std.specs.List.{filter, flat_map}
use Rattle.std.specs.List.Sorted.{IsStrictlySortedBy}
use Rattle.zot_digest.specs.ByteMap.{ByteMap, byte_cmp}
use Rattle.serde_json.specs.View.{view}
use Rattle.serde_json.specs.declared.value.Value.{Value}
use Rattle.zot_manifests.specs.Index.{Sets, is_in}
use Rattle.zot_manifests.specs.declared.kept.Kept.{Kept}
use Rattle.zot_maps.proofs.Entries.{AllFound, all_found, keys_ordered}
use Rattle.zot_maps.proofs.Maps.{byte_order}
use Rattle.zot_media.specs.References.{artifact_type}
use Rattle.zot_media.specs.Referrers.{Pushed, Referrer, descriptor_value, is_listed, passes, referrer_of, referrers_among}
use Rattle.zot_media.specs.declared.reading.Reading.{Reading}
use Rattle.zot_referrers.specs.Listing.{ListsSubjects, all_pushed, found_as, found_in, listed_entry, pushed_as, says_of}
use Rattle.zot_referrers.proofs.WalkLemmas.{SameFound, has, walks_alike}

-- ---- the list from scratch

module _ (sizes : List ℕ → Option ℕ) (manifests : ByteMap Kept) (subject : List ℕ) (wanted : Option (List ℕ)) where
  abbrev pub Found : List ℕ → List Referrer
  Found digest = found_in sizes manifests subject wanted digest

  abbrev pushed_of : List ℕ × Kept → Pushed
  pushed_of entry = pushed_as entry.0 (unwrap_or (sizes entry.0) 0) entry.1

  chosen : (b : Bool) (pushed : Pushed) (rest : List Pushed) → cond b (referrer_of pushed ∷ []) [] ++ map referrer_of rest ≡ map referrer_of (cond b (pushed ∷ rest) rest)
  chosen true pushed rest = refl
  chosen false pushed rest = refl

  among : (es : List (List ℕ × Kept)) → flat_map (listed_entry sizes subject wanted) es ≡ map referrer_of (filter (λ pushed. is_listed subject wanted pushed.reading) (map pushed_of es))
  among [] = refl
  among (e ∷ es) =
      ap (λ rest. listed_entry sizes subject wanted e ++ rest) (among es)
      ∙ chosen (is_listed subject wanted e.1.reading) (pushed_of e) (filter (λ pushed. is_listed subject wanted pushed.reading) (map pushed_of es))

  -- what is made of all entries is the list from scratch
  pub entries_all : flat_map (listed_entry sizes subject wanted) (finite.entries manifests) ≡ referrers_among (all_pushed sizes manifests) subject wanted
  entries_all = among (finite.entries manifests)

  by_keys : (es : List (List ℕ × Kept)) → AllFound byte_order (finite.entries manifests) es → flat_map Found (map (λ e. e.0) es) ≡ flat_map (listed_entry sizes subject wanted) es
  by_keys [] h = refl
  by_keys (e ∷ es) h =
      ap (λ found. found_as sizes subject wanted e.0 found ++ flat_map Found (map (λ x. x.0) es)) (get-entries manifests e.0 ∙ h.0)
      ∙ ap (λ rest. listed_entry sizes subject wanted e ++ rest) (by_keys es h.1)

  -- a walk over all digests gives the list from scratch
  from_scratch : flat_map Found (finite.keys manifests) ≡ referrers_among (all_pushed sizes manifests) subject wanted
  from_scratch = by_keys (finite.entries manifests) (all_found byte_order (finite.entries manifests) (keys_ordered byte_cmp manifests)) ∙ entries_all

  -- ---- what is listed under the subject

  abbrev pub keys_in : Option (BTreeSet (List ℕ)) → List (List ℕ)
  keys_in None = []
  keys_in (Some set) = set.keys

  left_true : (a b : Bool) → (a && b) ≡ true → a ≡ true
  left_true true b h = refl
  left_true false b h = cc h

  is_subject : (reading : Reading) → is_listed subject wanted reading ≡ true → says_of reading subject ≡ true
  is_subject reading h = left_true (says_of reading subject) (passes wanted (artifact_type reading)) h

  in_keys : (listed : Option (BTreeSet (List ℕ))) (digest : List ℕ) → is_in byte_cmp listed digest ≡ true → has (keys_in listed) digest ≡ true
  in_keys None digest h = cc h
  in_keys (Some set) digest h = h

  same_found : (sets : Sets (List ℕ)) (listed : Option (BTreeSet (List ℕ))) → ListsSubjects manifests sets → get byte_cmp sets subject ≡ listed → SameFound Found (keys_in listed) (finite.keys manifests)
  same_found sets listed all is digest some = split (finite.get manifests digest) refl where
    split : (kept : Option Kept) → finite.get manifests digest ≡ kept → has (keys_in listed) digest ≡ has (finite.keys manifests) digest
    split None there = absurd (some (ap (found_as sizes subject wanted digest) there))
    split (Some kept) there = by (is_listed subject wanted kept.reading) refl where
      by : (b : Bool) → is_listed subject wanted kept.reading ≡ b → has (keys_in listed) digest ≡ has (finite.keys manifests) digest
      by false isnt = absurd (some (ap (found_as sizes subject wanted digest) there ∙ ap (λ b. cond b (referrer_of (pushed_as digest (unwrap_or (sizes digest) 0) kept) ∷ []) []) isnt))
      by true says =
          in_keys listed digest (ap (λ o. is_in byte_cmp o digest) (sym is) ∙ all digest subject kept there (is_subject kept.reading says))
          ∙ sym (ap is_some there) ∙ contains_key-keys manifests digest

  -- a walk over those that are listed under the subject gives the list from scratch
  pub listed_all : (sets : Sets (List ℕ)) (listed : Option (BTreeSet (List ℕ))) → ListsSubjects manifests sets → get byte_cmp sets subject ≡ listed → IsStrictlySortedBy byte_cmp (keys_in listed)
      → flat_map Found (keys_in listed) ≡ referrers_among (all_pushed sizes manifests) subject wanted
  listed_all sets listed all is sorted = walks_alike Found (keys_in listed) (finite.keys manifests) sorted (keys_ordered byte_cmp manifests) (same_found sets listed all is) ∙ from_scratch

  -- where descriptors were made on such a walk, they are those of the list from scratch
  pub all_listed : {E : Type 0} (result : Result (Vec Value Global) E) (sets : Sets (List ℕ)) (listed : BTreeSet (List ℕ)) → ListsSubjects manifests sets → Some listed ≡ get byte_cmp sets subject
      → OnOk result (IsStrictlySortedBy byte_cmp listed.keys) → IfOk result (λ descriptors. map view descriptors.items ≡ map descriptor_value (flat_map Found listed.keys))
      → IfOk result (λ descriptors. map view descriptors.items ≡ map descriptor_value (referrers_among (all_pushed sizes manifests) subject wanted))
  all_listed (Ok descriptors) sets listed all is sorted h = h ∙ ap (map descriptor_value) (listed_all sets (Some listed) all (sym is) sorted)
  all_listed (Err error) sets listed all is sorted h = tt

  -- where nothing is listed under the subject, there are none
  pub none_listed : (sets : Sets (List ℕ)) → ListsSubjects manifests sets → None ≡ get byte_cmp sets subject → [] ≡ map descriptor_value (referrers_among (all_pushed sizes manifests) subject wanted)
  unfolding IsStrictlySortedBy
  none_listed sets all is = ap (map descriptor_value) (listed_all sets None all (sym is) tt)

-- The index that is written, as a value: how deep it is, and what it means.
use Rattle.std.proofs.Common.{◌≡◌, ℕ, ◌≤◌, Bool, true, false, List, [], ◌∷◌, ◌++◌, map, max, Some, String, Global, string_bytes, arith, refl, sym, ap, subst, ◌∙◌}
use Rattle.std.specs.Prelude.{IfOk, Result, Ok, Err, if◌then◌else◌}
use Rattle.std.specs.List.{filter, flat_map, list_all, list_any}
use Rattle.std.proofs.lemmas.Str.{IsUtf8-string_bytes}
use Rattle.serde_json.specs.Data.{Data, Items, depth, items_depth}
use Rattle.serde_json.specs.Read.{max_depth, read}
use Rattle.serde_json.specs.View.{items_of}
use Rattle.zot_media.specs.Fields.{document, each, values_of, whole_of}
use Rattle.zot_media.proofs.FieldLemmas.{document_some}
use Rattle.zot_layout.specs.Notes.{listed_of, note_of}
use Rattle.zot_layout.specs.Reading.{has_version, items_in, listed_in, may_stand, meaning, meaning_in, meaning_of, state_of}
use Rattle.zot_layout.specs.State.{IsIndex, as_written, is_of}
use Rattle.zot_layout.specs.Text.{all_descriptors, descriptor_with, descriptors_of, index_value, index_with, tagged, tagged_notes, untagged, untagged_notes}
use Rattle.zot_layout.specs.declared.index_manifest.IndexManifest.{IndexManifest}
use Rattle.zot_layout.specs.declared.index_state.IndexState.{IndexState}
use Rattle.zot_layout.specs.declared.index_tag.IndexTag.{IndexTag}
use Rattle.zot_layout.specs.declared.layout_error.LayoutError.TheVariants.{BadMeta}
use Rattle.std.proofs.lemmas.Bool.{true≢false}
use Rattle.zot_layout.proofs.BackLemmas.{all_stand, each_read, listed, pairs, state_back}

-- ---- how deep it is

larger : (a b n : ℕ) → a ≤ n → b ≤ n → max a b ≤ n
larger a b n h k = omega arith

each_depth : (manifest : IndexManifest) (tags : List IndexTag) → items_depth (items_of (map (tagged manifest) tags)) ≤ 2
unfolding tagged_notes descriptor_with
each_depth manifest [] = omega arith
each_depth manifest (tag ∷ tags) = larger (depth (tagged manifest tag)) (items_depth (items_of (map (tagged manifest) tags))) 2 (omega arith) (each_depth manifest tags)

one_depth : (tags : List IndexTag) (manifest : IndexManifest) → items_depth (items_of (descriptors_of tags manifest)) ≤ 2
unfolding untagged_notes descriptor_with
one_depth tags manifest = by (list_any (is_of manifest.digest) tags) where
  by : (b : Bool) → items_depth (items_of (if b then map (tagged manifest) (filter (is_of manifest.digest) tags) else untagged manifest ∷ [])) ≤ 2
  by true = each_depth manifest (filter (is_of manifest.digest) tags)
  by false = omega arith

joined_depth : (xs ys : List Data) → items_depth (items_of xs) ≤ 2 → items_depth (items_of ys) ≤ 2 → items_depth (items_of (xs ++ ys)) ≤ 2
joined_depth [] ys h k = k
joined_depth (x ∷ xs) ys h k = larger (depth x) (items_depth (items_of (xs ++ ys))) 2 (omega (arith, h)) (joined_depth xs ys (omega (arith, h)) k)

pub all_depth : (tags : List IndexTag) (manifests : List IndexManifest) → items_depth (items_of (flat_map (descriptors_of tags) manifests)) ≤ 2
all_depth tags [] = omega arith
all_depth tags (manifest ∷ manifests) = joined_depth (descriptors_of tags manifest) (flat_map (descriptors_of tags) manifests) (one_depth tags manifest) (all_depth tags manifests)

pub index_depth : (descriptors : Items) → items_depth descriptors ≤ 2 → depth (index_with descriptors) ≤ 127
unfolding index_with
index_depth descriptors h = omega (arith, h)

-- ---- what it means

values-items : (ds : List Data) → values_of (items_of ds) ≡ ds
values-items [] = refl
values-items (d ∷ ds) = ap (λ rest. d ∷ rest) (values-items ds)

lists : (ds : List Data) → listed_in (index_with (items_of ds)) ≡ each listed_of ds
unfolding listed_in items_in index_with whole_of
lists ds = ap (each listed_of) (values-items ds)

versioned : (descriptors : Items) → has_version (index_with descriptors) ≡ true
unfolding has_version index_with note_of
versioned descriptors = refl

value_means : (state : IndexState) → IsIndex state → (path bytes : List ℕ) (moment : ℕ) → meaning_in path bytes moment (Some (index_value state)) ≡ Ok (as_written state)
value_means state is path bytes moment =
    ap (λ b. meaning_of path bytes moment b (listed_in (index_value state))) (versioned (items_of (all_descriptors state)))
    ∙ ap (meaning_of path bytes moment true) (lists (all_descriptors state) ∙ each_read state is)
    ∙ by (list_all may_stand (map listed (pairs state is))) (all_stand state is) where
      by : (b : Bool) → b ≡ true → (if b then Ok (state_of moment (map listed (pairs state is))) else Err (BadMeta path bytes)) ≡ Ok (as_written state)
      by true h = ap Ok (state_back state is moment)
      by false h = absurd (true≢false (sym h))

-- a text that is read as the index means the state
pub text_means : (state : IndexState) (bytes : List ℕ) → document bytes ≡ Some (index_value state) → IsIndex state → (path : List ℕ) (moment : ℕ) → meaning path bytes moment ≡ Ok (as_written state)
text_means state bytes h is path moment = ap (meaning_in path bytes moment) h ∙ value_means state is path bytes moment

-- what was written of a value that isn't too deep is read as its document
pub string_document : {E : Type 0} (written : Result (String Global) E) (value wanted : Data) → value ≡ wanted → depth wanted ≤ 127
    → IfOk written (λ text. depth value ≤ max_depth → read (string_bytes text) ≡ Some value) → IfOk written (λ text. document (string_bytes text) ≡ Some wanted)
string_document (Ok text) value wanted is shallow h = document_some (string_bytes text) value (IsUtf8-string_bytes text) (h (subst (λ d. depth d ≤ max_depth) (sym is) shallow)) ∙ ap Some is
string_document (Err error) value wanted is shallow h = tt

-- descriptors that are these aren't deep either
pub shallow_by : (one other : List Data) → one ≡ other → items_depth (items_of other) ≤ 2 → items_depth (items_of one) ≤ 2
shallow_by one other is h = subst (λ ds. items_depth (items_of ds) ≤ 2) (sym is) h

-- bytes that are read as the index of a state's descriptors mean the state
pub read_means : (state : IndexState) (manifests : List IndexManifest) (tags : List IndexTag) (descriptors : List Data) (bytes text : List ℕ) → manifests ≡ state.manifests → tags ≡ state.tags
    → descriptors ≡ flat_map (descriptors_of tags) manifests → bytes ≡ text → document text ≡ Some (index_with (items_of descriptors))
    → IsIndex state → (path : List ℕ) (moment : ℕ) → meaning path bytes moment ≡ Ok (as_written state)
read_means state manifests tags descriptors bytes text ms ts ds same is =
    text_means state bytes (ap document same ∙ is ∙ rw (ds, ms, ts) refl)

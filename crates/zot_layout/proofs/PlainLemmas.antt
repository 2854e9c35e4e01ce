-- An index is written without floats.
use Rattle.std.proofs.Common.{◌≡◌, ℕ, Bool, false, true, List, [], ◌∷◌, ◌++◌, map, String, Global, string_bytes, refl, ap, ◌∙◌}
use Rattle.std.specs.Prelude.{◌||◌, IfOk, Result, Ok, Err, if◌then◌else◌}
use Rattle.std.specs.List.{filter, flat_map, list_any}
use Rattle.serde_json.specs.Data.{Data, Items}
use Rattle.serde_json.specs.View.{items_of}
use Rattle.serde_json.specs.Written.{compact_text, has_float, items_have_float}
use Rattle.zot_layout.specs.State.{is_of}
use Rattle.zot_layout.specs.Text.{descriptor_with, descriptors_of, index_text, index_with, tagged, tagged_notes, untagged, untagged_notes}
use Rattle.zot_layout.specs.declared.index_manifest.IndexManifest.{IndexManifest}
use Rattle.zot_layout.specs.declared.index_state.IndexState.{IndexState}
use Rattle.zot_layout.specs.declared.index_tag.IndexTag.{IndexTag}

none : (a b : Bool) → a ≡ false → b ≡ false → (a || b) ≡ false
none false b e f = f
none true b e f = absurd (cc e)

second_none : (a b : Bool) → (a || b) ≡ false → b ≡ false
second_none false b h = h
second_none true b h = absurd (cc h)

first_none : (a b : Bool) → (a || b) ≡ false → a ≡ false
first_none false b h = refl
first_none true b h = absurd (cc h)

untagged_plain : (manifest : IndexManifest) → has_float (untagged manifest) ≡ false
unfolding untagged_notes descriptor_with
untagged_plain manifest = refl

tagged_plain : (manifest : IndexManifest) (tag : IndexTag) → has_float (tagged manifest tag) ≡ false
unfolding tagged_notes descriptor_with
tagged_plain manifest tag = refl

each_tagged : (manifest : IndexManifest) (tags : List IndexTag) → items_have_float (items_of (map (tagged manifest) tags)) ≡ false
each_tagged manifest [] = refl
each_tagged manifest (tag ∷ tags) =
    none (has_float (tagged manifest tag)) (items_have_float (items_of (map (tagged manifest) tags))) (tagged_plain manifest tag) (each_tagged manifest tags)

each_plain : (tags : List IndexTag) (manifest : IndexManifest) → items_have_float (items_of (descriptors_of tags manifest)) ≡ false
each_plain tags manifest = by (list_any (is_of manifest.digest) tags) where
  by : (b : Bool) → items_have_float (items_of (if b then map (tagged manifest) (filter (is_of manifest.digest) tags) else untagged manifest ∷ [])) ≡ false
  by true = each_tagged manifest (filter (is_of manifest.digest) tags)
  by false = none (has_float (untagged manifest)) false (untagged_plain manifest) refl

joined_plain : (xs ys : List Data) → items_have_float (items_of xs) ≡ false → items_have_float (items_of ys) ≡ false → items_have_float (items_of (xs ++ ys)) ≡ false
joined_plain [] ys h more = more
joined_plain (x ∷ xs) ys h more =
    none (has_float x) (items_have_float (items_of (xs ++ ys))) (first_none (has_float x) (items_have_float (items_of xs)) h)
    (joined_plain xs ys (second_none (has_float x) (items_have_float (items_of xs)) h) more)

-- no descriptor has a float
pub all_plain : (tags : List IndexTag) (manifests : List IndexManifest) → items_have_float (items_of (flat_map (descriptors_of tags) manifests)) ≡ false
all_plain tags [] = refl
all_plain tags (manifest ∷ manifests) = joined_plain (descriptors_of tags manifest) (flat_map (descriptors_of tags) manifests) (each_plain tags manifest) (all_plain tags manifests)

-- nor has the index of descriptors that have none
pub index_plain : (descriptors : Items) → items_have_float descriptors ≡ false → has_float (index_with descriptors) ≡ false
unfolding index_with
index_plain descriptors all = rw all refl

-- what was written for a value without floats is its text
pub plain_text : {E : Type 0} (written : Result (String Global) E) (value wanted : Data) → value ≡ wanted → has_float wanted ≡ false
    → IfOk written (λ text. has_float value ≡ false → string_bytes text ≡ compact_text value) → IfOk written (λ text. string_bytes text ≡ compact_text wanted)
plain_text (Ok text) value wanted is plain h = h (ap has_float is ∙ plain) ∙ ap compact_text is
plain_text (Err error) value wanted is plain h = tt

-- the text of the descriptors of a state is that of its index
pub text_is : (state : IndexState) (manifests : List IndexManifest) (tags : List IndexTag) (descriptors : List Data) (text : List ℕ) → manifests ≡ state.manifests → tags ≡ state.tags
    → descriptors ≡ flat_map (descriptors_of tags) manifests → text ≡ compact_text (index_with (items_of descriptors)) → text ≡ index_text state
unfolding index_text
text_is state manifests tags descriptors text ms ts ds is = is ∙ rw (ds, ms, ts) refl

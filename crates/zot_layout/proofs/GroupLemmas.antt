-- Tags that are grouped by the digests of their manifests.
use Rattle.std.proofs.Common.{◌≡◌, ℕ, Bool, true, false, cond, List, [], ◌∷◌, ◌++◌, map, Option, Some, None, Vec, Global, Bor, append-nil, refl, sym, ap, subst, ◌∙◌}
use Rattle.std.specs.Prelude.{◌||◌, if◌then◌else◌, option_copied, Result, Ok, Err, OnOk}
use Rattle.std.specs.BTreeMap.{is_at}
use Rattle.std.specs.List.{filter, list_any}
use Rattle.std.specs.Map.{lookup}
use Rattle.std.proofs.lemmas.Bool.{true≢false}
use Rattle.std.proofs.lemmas.List.Elements.{filter-append}
use Rattle.std.proofs.lemmas.Slice.Eq.{bytes_eq-Decides}
use Rattle.serde_json.specs.Data.{Data}
use Rattle.zot_digest.specs.ByteMap.{byte_cmp}
use Rattle.zot_maps.proofs.Maps.{byte_order, same_key, tied_keys}
use Rattle.zot_layout.specs.Groups.{IsGroup}
use Rattle.zot_layout.specs.State.{is_of}
use Rattle.zot_layout.specs.Text.{descriptors_of, tagged, untagged}
use Rattle.zot_layout.specs.declared.index_manifest.IndexManifest.{IndexManifest}
use Rattle.zot_layout.specs.declared.index_tag.IndexTag.{IndexTag}
use Rattle.zot_layout.proofs.BackLemmas.{any_joined, map_joined, map_twice, right_or}

abbrev pub Group : Type 0
Group = Vec (Bor IndexTag) Global

abbrev pub refs_in : Option Group → List (Bor IndexTag)
refs_in None = []
refs_in (Some group) = group.items

abbrev tags_in : Option Group → List IndexTag
tags_in group = map (λ tag. tag.now) (refs_in group)

none_pass : (digest : List ℕ) (tags : List IndexTag) → list_any (is_of digest) tags ≡ false → filter (is_of digest) tags ≡ []
none_pass digest [] h = refl
none_pass digest (tag ∷ tags) h = by (none_pass digest tags) (is_of digest tag) h where
  by : (list_any (is_of digest) tags ≡ false → filter (is_of digest) tags ≡ []) → (b : Bool) → (b || list_any (is_of digest) tags) ≡ false
      → (if b then tag ∷ filter (is_of digest) tags else filter (is_of digest) tags) ≡ []
  by more true is = absurd (true≢false is)
  by more false is = more is

-- the tags of a group are those of its digest
in_group : (tags : List IndexTag) (digest : List ℕ) (group : Option Group) → IsGroup tags digest group → tags_in group ≡ filter (is_of digest) tags
in_group tags digest None h = sym (none_pass digest tags h)
in_group tags digest (Some group) h = h.1

either : (a b : Bool) → b ≡ false → (a || (b || false)) ≡ a
either true b h = refl
either false true h = h
either false false h = refl

pushed : (before taken after : List (Bor IndexTag)) (tag : Bor IndexTag) → before ≡ taken → after ≡ taken ++ tag ∷ [] → map (λ one. one.now) after ≡ map (λ one. one.now) before ++ tag.now ∷ []
pushed before taken after tag same put = ap (map (λ one. one.now)) (put ∙ ap (λ refs. refs ++ tag ∷ []) (sym same)) ∙ map_joined (λ (one : Bor IndexTag). one.now) before (tag ∷ [])

module _ (tags : List IndexTag) (tag : IndexTag) where
  -- a tag more of the digest
  here : (group : Group) (before : Option Group) → IsGroup tags tag.digest before → map (λ one. one.now) group.items ≡ tags_in before ++ tag ∷ [] → IsGroup (tags ++ tag ∷ []) tag.digest (Some group)
  here group before h is = (
    any_joined (is_of tag.digest) tags (tag ∷ []) ∙ right_or (list_any (is_of tag.digest) tags) (is_of tag.digest tag || false) (ap (λ b. b || false) own),
    is ∙ ap (λ ts. ts ++ tag ∷ []) (in_group tags tag.digest before h) ∙ ap (λ b. filter (is_of tag.digest) tags ++ (if b then tag ∷ [] else [])) (sym own)
        ∙ sym (filter-append (is_of tag.digest) tags (tag ∷ [])),
  ) where
    own : is_of tag.digest tag ≡ true
    own = (bytes_eq-Decides tag.digest tag.digest).1 refl

  -- and of another one
  elsewhere : (digest : List ℕ) (group : Option Group) → is_of digest tag ≡ false → IsGroup tags digest group → IsGroup (tags ++ tag ∷ []) digest group
  elsewhere digest None other h = any_joined (is_of digest) tags (tag ∷ []) ∙ either (list_any (is_of digest) tags) (is_of digest tag) other ∙ h
  elsewhere digest (Some group) other h = (
    any_joined (is_of digest) tags (tag ∷ []) ∙ either (list_any (is_of digest) tags) (is_of digest tag) other ∙ h.0,
    h.1 ∙ sym (append-nil (filter (is_of digest) tags)) ∙ ap (λ b. filter (is_of digest) tags ++ (if b then tag ∷ [] else [])) (sym other)
        ∙ sym (filter-append (is_of digest) tags (tag ∷ [])),
  )

  apart_of : (digest : List ℕ) → is_at (byte_cmp tag.digest) digest ≡ false → is_of digest tag ≡ false
  apart_of digest apart = split (is_of digest tag) refl where
    split : (b : Bool) → is_of digest tag ≡ b → b ≡ false
    split false is = refl
    split true is = absurd (true≢false (sym (ap (λ d. is_at (byte_cmp tag.digest) d) (sym ((bytes_eq-Decides tag.digest digest).0 is)) ∙ same_key byte_order tag.digest) ∙ apart))

  abbrev Found : List (List ℕ × Group) → List ℕ → Option Group
  Found es digest = lookup (is_at (byte_cmp digest)) es

  -- the groups after the group of the tag's digest was taken and put again with the tag
  pub one_more : (es ms fs : List (List ℕ × Group)) (group : Group) → ((q : List ℕ) → IsGroup tags q (Found es q))
      → ((q : List ℕ) → Found ms q ≡ cond (is_at (byte_cmp tag.digest) q) None (Found es q)) → ((q : List ℕ) → Found fs q ≡ cond (is_at (byte_cmp tag.digest) q) (Some group) (Found ms q))
      → (ref : Bor IndexTag) (taken : List (Bor IndexTag)) → ref.now ≡ tag → refs_in (Found es tag.digest) ≡ taken → group.items ≡ taken ++ ref ∷ [] → (q : List ℕ) → IsGroup (tags ++ tag ∷ []) q (Found fs q)
  one_more es ms fs group all taken put ref before same was more q = subst (IsGroup (tags ++ tag ∷ []) q) (sym (put q)) (split (is_at (byte_cmp tag.digest) q) refl) where
    split : (b : Bool) → is_at (byte_cmp tag.digest) q ≡ b → IsGroup (tags ++ tag ∷ []) q (cond b (Some group) (Found ms q))
    split true tied = subst (λ d. IsGroup (tags ++ tag ∷ []) d (Some group)) (tied_keys byte_order tag.digest q tied) (here group (Found es tag.digest) (all tag.digest) (pushed (refs_in (Found es tag.digest)) before group.items ref was more ∙ ap (λ t. tags_in (Found es tag.digest) ++ t ∷ []) same))
    split false apart = subst (IsGroup (tags ++ tag ∷ []) q) (sym (taken q ∙ ap (λ b. cond b None (Found es q)) apart)) (elsewhere q (Found es q) (apart_of q apart) (all q))

-- ---- the descriptors of a manifest whose tags are grouped

of_group : (tags : List IndexTag) (manifest : IndexManifest) (group : Group) → IsGroup tags manifest.digest (Some group) → map (λ tag. tagged manifest tag.now) group.items ≡ descriptors_of tags manifest
of_group tags manifest group h =
    sym (map_twice (λ (tag : Bor IndexTag). tag.now) (tagged manifest) (λ (tag : Bor IndexTag). tagged manifest tag.now) (λ tag. refl) group.items) ∙ ap (map (tagged manifest)) h.1
    ∙ ap (λ b. if b then map (tagged manifest) (filter (is_of manifest.digest) tags) else untagged manifest ∷ []) (sym h.0)

pub added : {X E : Type 0} (result : Result X E) (before after : List Data) (manifest : IndexManifest) (found : Option (Bor Group)) (group : Bor Group) (slice : List (Bor IndexTag)) → found ≡ Some group → slice ≡ group.now.items
    → OnOk result (after ≡ before ++ map (λ tag. tagged manifest tag.now) slice) → OnOk result ((tags : List IndexTag) → IsGroup tags manifest.digest (option_copied found) → after ≡ before ++ descriptors_of tags manifest)
added (Ok x) before after manifest found group slice is same put = λ tags h.
    put ∙ ap (λ refs. before ++ map (λ (tag : Bor IndexTag). tagged manifest tag.now) refs) same
    ∙ ap (λ ds. before ++ ds) (of_group tags manifest group.now (subst (λ o. IsGroup tags manifest.digest (option_copied o)) is h))
added (Err e) before after manifest found group slice is same put = tt

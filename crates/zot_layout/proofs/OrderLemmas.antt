-- What is read of an index is in order, and each of its tags is one of a listed manifest.
use Rattle.std.proofs.Common.{◌≡◌, ℕ, ◌<◌, ◌^◌, Bool, true, false, List, [], ◌∷◌, map, Option, Some, None, option_and_then, arith, refl, sym, ap, subst, ◌∙◌}
use Rattle.std.specs.Prelude.{◌||◌, ◌&&◌, T, ⊤, codes, if◌then◌else◌, nat_lt, Ok, Err}
use Rattle.std.specs.BTreeMap.{insert_entry}
use Rattle.std.specs.FinMap.Entries.{is_sorted, is_sorted-put}
use Rattle.std.specs.List.{AllByRecursion, list_all, list_any}
use Rattle.std.specs.List.Sorted.{IsStrictlySortedBy}
use Rattle.std.specs.Ordering.{match_ordering}
use Rattle.std.specs.Str.{bytes_eq}
use Rattle.std.specs.Str.Parse.{digits_value}
use Rattle.std.specs.declared.cmp.Ordering.{Ordering}
use Rattle.std.specs.declared.cmp.Ordering.TheVariants.{Less, Equal, Greater}
use Rattle.std.proofs.lemmas.Bool.{leb-true, true≢false}
use Rattle.std.proofs.lemmas.Slice.Eq.{bytes_eq-Decides}
use Rattle.serde_json.specs.Data.{Data}
use Rattle.serde_json.specs.Find.{as_str}
use Rattle.zot_digest.specs.ByteMap.{byte_cmp}
use Rattle.zot_digest.specs.Digest.{IsDigest, digest_named}
use Rattle.zot_digest.proofs.DigestLemmas.{named_is_text}
use Rattle.zot_maps.proofs.Entries.{keys_ascend}
use Rattle.zot_maps.proofs.Maps.{byte_order}
use Rattle.zot_media.specs.Descriptors.{descriptor_of, digest_in, external_in, size_in}
use Rattle.zot_media.specs.Fields.{document, each, text_of}
use Rattle.zot_media.specs.declared.descriptor.Descriptor.{Descriptor}
use Rattle.zot_media.specs.declared.media.Media.{Media}
use Rattle.zot_names.specs.Tag.{IsTag}
use Rattle.zot_layout.specs.Moments.{are_digits, moment_by, moment_named, moment_of, moment_or, moment_within}
use Rattle.zot_layout.specs.Notes.{is_tag, listed_of, note_of, tag_in, tag_named}
use Rattle.zot_layout.specs.Reading.{has_version, items_in, listed_in, manifest_of, may_stand, meaning, meaning_in, meaning_of, state_of, tag_by, tag_of, with_manifest, with_manifests, with_tag, with_tags}
use Rattle.zot_layout.specs.Rows.{empty_index}
use Rattle.zot_layout.specs.State.{IsIndex, IsManifest, IsTagOf}
use Rattle.zot_layout.specs.declared.index_state.IndexState.{IndexState}
use Rattle.zot_layout.specs.declared.layout_error.LayoutError.TheVariants.{BadMeta}
use Rattle.zot_layout.specs.declared.listed.Listed.{Listed}
use Rattle.zot_layout.specs.declared.moment.Moment.{Moment}
use Rattle.zot_layout.specs.declared.moment.Moment.TheVariants.{At, Missing, Wrong}
use Rattle.zot_layout.specs.declared.parts.ManifestPart.{ManifestPart}
use Rattle.zot_layout.specs.declared.parts.TagPart.{TagPart}
use Rattle.zot_layout.proofs.BackLemmas.{all_mapped, all_of, left_or, map_twice, right_or}
use Rattle.zot_layout.proofs.SortLemmas.{same_put}
use Rattle.zot_layout.proofs.TagLemmas.{tag_from_test}

-- ---- what is there has a property

abbrev Where : {A : Type 0} → (A → Type 0) → Option A → Type 0
Where P None = ⊤
Where P (Some x) = P x

where-then : {A B : Type 0} (P : A → Type 0) (Q : B → Type 0) (f : A → Option B) → ((x : A) → P x → Where Q (f x)) → (o : Option A) → Where P o → Where Q (option_and_then f o)
where-then P Q f h None is = tt
where-then P Q f h (Some x) is = h x is

any : {A : Type 0} (o : Option A) → Where (λ _. ⊤) o
any None = tt
any (Some x) = tt

where-from : {A : Type 0} (P : A → Type 0) (o : Option A) → ((x : A) → o ≡ Some x → P x) → Where P o
where-from P None h = tt
where-from P (Some x) h = h x refl

-- ---- what is read of a descriptor

abbrev IsSmall : ℕ → Type 0
IsSmall n = n < 2 ^ 64

abbrev IsIn : Moment → Type 0
IsIn Missing = ⊤
IsIn (At n) = IsSmall n
IsIn Wrong = ⊤

record IsListed (listed : Listed) : Type 0 where
  digest : IsDigest listed.digest
  tag : Where IsTag listed.tag
  arrived : IsIn listed.arrived
  pushed : IsIn listed.pushed

small_moment : (text : List ℕ) → Where IsSmall (moment_named text)
unfolding moment_named
small_moment text = by (are_digits text) where
  within : (n : ℕ) (b : Bool) → nat_lt n (2 ^ 64) ≡ b → Where IsSmall (if b then Some n else None)
  within n true h = leb-true _ _ h
  within n false h = tt

  by : (b : Bool) → Where IsSmall (if b then moment_within (digits_value 10 text) else None)
  by true = within (digits_value 10 text) (nat_lt (digits_value 10 text) (2 ^ 64)) refl
  by false = tt

small_by : (o : Option ℕ) → Where IsSmall o → IsIn (moment_by o)
small_by None h = tt
small_by (Some n) h = h

in_moment : (field : Option Data) → IsIn (moment_of field)
in_moment None = tt
in_moment (Some field) = small_by _ (where-then (λ _. ⊤) IsSmall moment_named (λ text is. small_moment text) (as_str field) (any (as_str field)))

real_tag : (value : Data) → Where IsTag (tag_in value)
unfolding tag_in
real_tag value = where-then (λ _. ⊤) IsTag tag_named (λ text is. by text (is_tag text) refl) (option_and_then as_str note) (any (option_and_then as_str note)) where
  note : Option Data
  note = note_of (codes "org.opencontainers.image.ref.name") value

  by : (text : List ℕ) (b : Bool) → is_tag text ≡ b → Where IsTag (if b then Some text else None)
  by text true h = tag_from_test text h
  by text false h = tt

real_digest : (value : Data) → Where IsDigest (digest_in value)
unfolding digest_in
real_digest value = where-then (λ _. ⊤) IsDigest digest_named (λ text is. where-from IsDigest (digest_named text) (λ digest h. (named_is_text text digest h).1)) (text_of (codes "digest") value) (any (text_of (codes "digest") value))

abbrev HasDigest : Descriptor → Type 0
HasDigest descriptor = IsDigest descriptor.digest

real_descriptor : (value : Data) → Where HasDigest (descriptor_of value)
unfolding descriptor_of
real_descriptor value =
    where-then (λ _. ⊤) HasDigest _ (λ media x.
    where-then IsDigest HasDigest _ (λ digest is.
    where-then (λ _. ⊤) HasDigest _ (λ size x.
    where-then (λ _. ⊤) HasDigest _ (λ external x. is) (external_in value) (any (external_in value))) (size_in value) (any (size_in value))) (digest_in value) (real_digest value))
    (text_of (codes "mediaType") value) (any (text_of (codes "mediaType") value))

real_listed : (value : Data) → Where IsListed (listed_of value)
unfolding listed_of
real_listed value =
    where-then HasDigest IsListed _
    (λ descriptor is. record { digest = is; tag = real_tag value; arrived = in_moment (note_of (codes "zot.cluster.arrived") value); pushed = in_moment (note_of (codes "zot.cluster.pushed") value) })
    (descriptor_of value) (real_descriptor value)

real_each : (values : List Data) → Where (AllByRecursion IsListed) (each listed_of values)
real_each [] = tt
real_each (value ∷ values) =
    where-then IsListed (AllByRecursion IsListed) _ (λ first is. where-then (AllByRecursion IsListed) (AllByRecursion IsListed) _ (λ others more. (is, more)) (each listed_of values) (real_each values))
    (listed_of value) (real_listed value)

real_all : (value : Data) → Where (AllByRecursion IsListed) (listed_in value)
unfolding listed_in
real_all value = by _ where
  by : (b : Bool) → Where (AllByRecursion IsListed) (if b then option_and_then (each listed_of) (items_in value) else None)
  by true = where-then (λ _. ⊤) (AllByRecursion IsListed) (each listed_of) (λ values x. real_each values) (items_in value) (any (items_in value))
  by false = tt

-- ---- entries in order

itself : (k : List ℕ) → bytes_eq k k ≡ true
itself k = (bytes_eq-Decides k k).1 refl

module _ {X : Type 0} where
  sorted_put : (es : List (List ℕ × X)) (k : List ℕ) (v : X) → T (is_sorted byte_cmp es) → T (is_sorted byte_cmp (insert_entry byte_cmp es k v))
  sorted_put es k v h = subst (λ fs. T (is_sorted byte_cmp fs)) (sym (same_put es k v)) (is_sorted-put byte_cmp byte_order.total k v es h)

  -- each key and each value have a property
  module _ (P : List ℕ → Type 0) (Q : X → Type 0) where
    abbrev AllParts : List (List ℕ × X) → Type 0
    AllParts es = AllByRecursion (λ e. P e.0 × Q e.1) es

    all_put : (es : List (List ℕ × X)) (k : List ℕ) (v : X) → P k → Q v → AllParts es → AllParts (insert_entry byte_cmp es k v)
    all_put [] k v p q h = ((p, q), tt)
    all_put (e ∷ es) k v p q h = by (all_put es k v p q h.1) (byte_cmp k e.0) where
      by : AllParts (insert_entry byte_cmp es k v) → (o : Ordering) → AllParts (match_ordering o ((k, v) ∷ e ∷ es) ((e.0, v) ∷ es) (e ∷ insert_entry byte_cmp es k v))
      by more Less = ((p, q), h)
      by more Equal = ((h.0.0, q), h.1)
      by more Greater = (h.0, more)

  -- whether the digest is a key
  abbrev has : List ℕ → List (List ℕ × X) → Bool
  has digest es = list_any (λ e. bytes_eq digest e.0) es

  here_put : (k : List ℕ) (v : X) (es : List (List ℕ × X)) → has k (insert_entry byte_cmp es k v) ≡ true
  here_put k v [] = left_or (bytes_eq k k) false (itself k)
  here_put k v (e ∷ es) = by (here_put k v es) (byte_cmp k e.0) refl where
    by : has k (insert_entry byte_cmp es k v) ≡ true → (o : Ordering) → byte_cmp k e.0 ≡ o → has k (match_ordering o ((k, v) ∷ e ∷ es) ((e.0, v) ∷ es) (e ∷ insert_entry byte_cmp es k v)) ≡ true
    by more Less tied = left_or (bytes_eq k k) (has k (e ∷ es)) (itself k)
    by more Equal tied = left_or (bytes_eq k e.0) (has k es) ((bytes_eq-Decides k e.0).1 (byte_order.antisymmetric k e.0 tied))
    by more Greater tied = right_or (bytes_eq k e.0) (has k (insert_entry byte_cmp es k v)) more

  kept_put : (digest k : List ℕ) (v : X) (es : List (List ℕ × X)) → has digest es ≡ true → has digest (insert_entry byte_cmp es k v) ≡ true
  kept_put digest k v [] h = absurd (true≢false (sym h))
  kept_put digest k v (e ∷ es) h = by (kept_put digest k v es) (byte_cmp k e.0) (bytes_eq digest e.0) refl where
    by : (has digest es ≡ true → has digest (insert_entry byte_cmp es k v) ≡ true) → (o : Ordering) (b : Bool) → bytes_eq digest e.0 ≡ b
        → has digest (match_ordering o ((k, v) ∷ e ∷ es) ((e.0, v) ∷ es) (e ∷ insert_entry byte_cmp es k v)) ≡ true
    by more Less b is = right_or (bytes_eq digest k) (has digest (e ∷ es)) h
    by more Equal b is = h
    by more Greater true is = left_or (bytes_eq digest e.0) (has digest (insert_entry byte_cmp es k v)) is
    by more Greater false is = right_or (bytes_eq digest e.0) (has digest (insert_entry byte_cmp es k v)) (more (sym (ap (λ b. b || has digest es) is) ∙ h))

-- ---- the state

any_manifest : (digest : List ℕ) (es : List (List ℕ × ManifestPart)) → list_any (λ manifest. bytes_eq digest manifest.digest) (map manifest_of es) ≡ has digest es
any_manifest digest [] = refl
any_manifest digest (e ∷ es) = ap (λ b. bytes_eq digest e.0 || b) (any_manifest digest es)

module _ (moment : ℕ) (small : IsSmall moment) where
  small_or : (said : Moment) → IsIn said → IsSmall (moment_or moment said)
  small_or Missing h = small
  small_or (At n) h = h
  small_or Wrong h = small

  abbrev AllManifests : List (List ℕ × ManifestPart) → Type 0
  AllManifests es = T (is_sorted byte_cmp es) × AllParts IsDigest (λ part. IsSmall part.arrived) es

  sort_manifests : (listed : List Listed) → AllByRecursion IsListed listed → (es : List (List ℕ × ManifestPart)) → AllManifests es → AllManifests (with_manifests moment es listed)
  sort_manifests [] h es all = all
  sort_manifests (l ∷ listed) h es all = by (sort_manifests listed h.1) l.media where
    by : ((fs : List (List ℕ × ManifestPart)) → AllManifests fs → AllManifests (with_manifests moment fs listed)) → (media : Option Media) → AllManifests (with_manifests moment (with_manifest moment es l media) listed)
    by more None = more es all
    by more (Some media) =
        let part : ManifestPart = record { media = media; size = l.size; arrived = moment_or moment l.arrived } in
        more (insert_entry byte_cmp es l.digest part)
        (sorted_put es l.digest part all.0, all_put IsDigest (λ part. IsSmall part.arrived) es l.digest part h.0.digest (small_or l.arrived h.0.arrived) all.1)

  kept_all : (digest : List ℕ) (listed : List Listed) (es : List (List ℕ × ManifestPart)) → has digest es ≡ true → has digest (with_manifests moment es listed) ≡ true
  kept_all digest [] es h = h
  kept_all digest (l ∷ listed) es h = by (kept_all digest listed) l.media where
    by : ((fs : List (List ℕ × ManifestPart)) → has digest fs ≡ true → has digest (with_manifests moment fs listed) ≡ true) → (media : Option Media)
        → has digest (with_manifests moment (with_manifest moment es l media) listed) ≡ true
    by more None = more es h
    by more (Some media) =
        let part : ManifestPart = record { media = media; size = l.size; arrived = moment_or moment l.arrived } in
        more (insert_entry byte_cmp es l.digest part) (kept_put digest l.digest part es h)

  -- a part of a tag whose manifest is among these
  abbrev IsUnder : List (List ℕ × ManifestPart) → TagPart → Type 0
  IsUnder manifests part = IsSmall part.pushed × (has part.digest manifests ≡ true)

  abbrev AllTags : List (List ℕ × ManifestPart) → List (List ℕ × TagPart) → Type 0
  AllTags manifests es = T (is_sorted byte_cmp es) × AllParts IsTag (IsUnder manifests) es

  sort_tags : (manifests : List (List ℕ × ManifestPart)) (listed : List Listed) → AllByRecursion IsListed listed → (ms : List (List ℕ × ManifestPart)) → with_manifests moment ms listed ≡ manifests
      → (es : List (List ℕ × TagPart)) → AllTags manifests es → AllTags manifests (with_tags moment es listed)
  sort_tags manifests [] h ms is es all = all
  sort_tags manifests (l ∷ listed) h ms is es all = by (sort_tags manifests listed h.1) l.media l.tag h.0.tag is where
    by : ((ns : List (List ℕ × ManifestPart)) → with_manifests moment ns listed ≡ manifests → (fs : List (List ℕ × TagPart)) → AllTags manifests fs → AllTags manifests (with_tags moment fs listed))
        → (media : Option Media) (tag : Option (List ℕ)) → Where IsTag tag → with_manifests moment (with_manifest moment ms l media) listed ≡ manifests
        → AllTags manifests (with_tags moment (with_tag moment es l (tag_by tag media)) listed)
    by more None tag real same = more ms same es all
    by more (Some media) None real same = more (with_manifest moment ms l (Some media)) same es all
    by more (Some media) (Some tag) real same =
        let kept : ManifestPart = record { media = media; size = l.size; arrived = moment_or moment l.arrived } in
        let part : TagPart = record { digest = l.digest; pushed = moment_or moment l.pushed } in
        let there : has l.digest manifests ≡ true =
        ap (has l.digest) (sym same) ∙ kept_all l.digest listed (insert_entry byte_cmp ms l.digest kept) (here_put l.digest kept ms) in
        more (with_manifest moment ms l (Some media)) same (insert_entry byte_cmp es tag part)
        (sorted_put es tag part all.0, all_put IsTag (IsUnder manifests) es tag part real (small_or l.pushed h.0.pushed, there) all.1)

  state_ordered : (listed : List Listed) → AllByRecursion IsListed listed → IsIndex (state_of moment listed)
  state_ordered listed h =
      let ms : List (List ℕ × ManifestPart) = with_manifests moment [] listed in
      let ts : List (List ℕ × TagPart) = with_tags moment [] listed in
      let one : AllManifests ms = sort_manifests listed h [] (tt, tt) in
      let other : AllTags ms ts = sort_tags ms listed h [] refl [] (tt, tt) in
      record {
        manifests = all_mapped IsManifest manifest_of ms (all_of (λ e. IsDigest e.0 × IsSmall e.1.arrived) (λ e. IsManifest (manifest_of e)) (λ e real. record { digest = real.0; arrived = real.1 }) ms one.1);
        tags = all_mapped (IsTagOf (map manifest_of ms)) tag_of ts
            (all_of (λ e. IsTag e.0 × IsUnder ms e.1) (λ e. IsTagOf (map manifest_of ms) (tag_of e))
            (λ e real. record { named = real.0; pushed = real.1.0; listed = any_manifest e.1.digest ms ∙ real.1.1 }) ts other.1);
        digests_ascend = subst (IsStrictlySortedBy byte_cmp) (sym (map_twice manifest_of (λ manifest. manifest.digest) (λ e. e.0) (λ e. refl) ms)) (keys_ascend byte_cmp ms one.0);
        tags_ascend = subst (IsStrictlySortedBy byte_cmp) (sym (map_twice tag_of (λ tag. tag.tag) (λ e. e.0) (λ e. refl) ts)) (keys_ascend byte_cmp ts other.0);
      }

-- an index of nothing is one
pub empty_ordered : IsIndex empty_index
empty_ordered = state_ordered 0 (omega arith) [] tt

-- what is read of bytes is the state of an index
pub meaning_ordered : (path bytes : List ℕ) (moment : ℕ) (state : IndexState) → moment < 2 ^ 64 → meaning path bytes moment ≡ Ok state → IsIndex state
meaning_ordered path bytes moment state small h = by_document (document bytes) h where
  by_test : (listed : List Listed) → AllByRecursion IsListed listed → (b : Bool) → (if b then Ok (state_of moment listed) else Err (BadMeta path bytes)) ≡ Ok state → IsIndex state
  by_test listed real true e = let same : state_of moment listed ≡ state = cc e in subst IsIndex same (state_ordered moment small listed real)
  by_test listed real false e = cc e

  by_listed : (version : Bool) (found : Option (List Listed)) → Where (AllByRecursion IsListed) found → meaning_of path bytes moment version found ≡ Ok state → IsIndex state
  by_listed version None real e = cc e
  by_listed version (Some listed) real e = by_test listed real (version && list_all may_stand listed) e

  by_document : (found : Option Data) → meaning_in path bytes moment found ≡ Ok state → IsIndex state
  by_document None e = cc e
  by_document (Some value) e = by_listed (has_version value) (listed_in value) (real_all value) e

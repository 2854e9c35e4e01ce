-- A list of referrers is written without floats.
use Rattle.std.proofs.Common.{◌≡◌, ℕ, Bool, false, true, List, [], ◌∷◌, map, Option, Some, None, String, Global, string_bytes, refl, ap, ◌∙◌}
use Rattle.std.specs.Prelude.{◌||◌, codes, IfOk, Result, Ok, Err}
use Rattle.std.specs.Cmp.Lexicographic.{slice_cmp}
use Rattle.std.specs.Ordering.{match_ordering, nat_cmp}
use Rattle.std.specs.declared.cmp.Ordering.{Ordering}
use Rattle.std.specs.declared.cmp.Ordering.TheVariants.{Less, Equal, Greater}
use Rattle.serde_json.specs.Data.{Data, Items, Members, array, member, no_members, number, object, put, string, unsigned}
use Rattle.serde_json.specs.View.{items_of}
use Rattle.serde_json.specs.Written.{compact_text, has_float, items_have_float, members_have_float}
use Rattle.zot_digest.specs.Digest.{digest_text}
use Rattle.zot_media.specs.Media.{media_text}
use Rattle.zot_media.specs.Referrers.{Referrer, descriptor_value, plain_members, referrers_value, with_annotations, with_each, with_type}
use Rattle.zot_media.specs.declared.annotation.Annotation.{Annotation}
use Rattle.zot_media.specs.declared.media.Media.{Media}
use Rattle.zot_media.specs.declared.media.Media.TheVariants.{Index}
use Rattle.zot_referrers.specs.Listing.{listing_value}

none : (a b : Bool) → a ≡ false → b ≡ false → (a || b) ≡ false
none false b e f = f
none true b e f = absurd (cc e)

first_none : (a b : Bool) → (a || b) ≡ false → a ≡ false
first_none false b h = refl
first_none true b h = absurd (cc h)

second_none : (a b : Bool) → (a || b) ≡ false → b ≡ false
second_none false b h = h
second_none true b h = absurd (cc h)

-- ---- members one by one

put_plain : (key : List ℕ) (value : Data) (members : Members) → has_float value ≡ false → members_have_float members ≡ false → members_have_float (put key value members) ≡ false
put_plain key value no_members plain all = none (has_float value) false plain refl
put_plain key value (member other found members) plain all =
    by (slice_cmp nat_cmp key other) (put_plain key value members plain (second_none (has_float found) (members_have_float members) all)) where
      by : (o : Ordering) → members_have_float (put key value members) ≡ false
          → members_have_float (match_ordering o (member key value (member other found members)) (member other value members) (member other found (put key value members))) ≡ false
      by Less rest = none (has_float value) (members_have_float (member other found members)) plain all
      by Equal rest = none (has_float value) (members_have_float members) plain (second_none (has_float found) (members_have_float members) all)
      by Greater rest = none (has_float found) (members_have_float (put key value members)) (first_none (has_float found) (members_have_float members) all) rest

each_plain : (members : Members) (annotations : List Annotation) → members_have_float members ≡ false → members_have_float (with_each members annotations) ≡ false
each_plain members [] all = all
each_plain members (annotation ∷ annotations) all =
    each_plain (put annotation.key (string annotation.text) members) annotations (put_plain annotation.key (string annotation.text) members refl all)

annotated_plain : (annotations : List Annotation) (members : Members) → members_have_float members ≡ false → members_have_float (with_annotations annotations members) ≡ false
annotated_plain [] members all = all
annotated_plain (annotation ∷ annotations) members all =
    put_plain (codes "annotations") (object (with_each no_members (annotation ∷ annotations))) members (each_plain no_members (annotation ∷ annotations) refl) all

typed_plain : (artifact : Option (List ℕ)) (members : Members) → members_have_float members ≡ false → members_have_float (with_type artifact members) ≡ false
typed_plain None members all = all
typed_plain (Some text) members all = put_plain (codes "artifactType") (string text) members refl all

always_plain : (digest : List ℕ) (media : Media) (size : ℕ) → members_have_float (plain_members digest media size) ≡ false
always_plain digest media size =
    put_plain (codes "digest") (string (digest_text digest)) (put (codes "mediaType") (string (media_text media)) (put (codes "size") (number (unsigned size)) no_members)) refl
    (put_plain (codes "mediaType") (string (media_text media)) (put (codes "size") (number (unsigned size)) no_members) refl
    (put_plain (codes "size") (number (unsigned size)) no_members refl refl))

descriptor_plain : (referrer : Referrer) → has_float (descriptor_value referrer) ≡ false
unfolding descriptor_value
descriptor_plain referrer =
    annotated_plain referrer.annotations (with_type referrer.artifact (plain_members referrer.digest referrer.media referrer.size))
    (typed_plain referrer.artifact (plain_members referrer.digest referrer.media referrer.size) (always_plain referrer.digest referrer.media referrer.size))

-- ---- the whole

-- no descriptor has a float
pub descriptors_plain : (referrers : List Referrer) → items_have_float (items_of (map descriptor_value referrers)) ≡ false
descriptors_plain [] = refl
descriptors_plain (referrer ∷ referrers) = none (has_float (descriptor_value referrer)) (items_have_float (items_of (map descriptor_value referrers))) (descriptor_plain referrer) (descriptors_plain referrers)

-- nor has the index of descriptors that have none
pub listing_plain : (descriptors : Items) → items_have_float descriptors ≡ false → has_float (listing_value descriptors) ≡ false
unfolding listing_value
listing_plain descriptors all =
    put_plain (codes "manifests") (array descriptors) (put (codes "mediaType") (string (media_text Index)) (put (codes "schemaVersion") (number (unsigned 2)) no_members)) all
    (put_plain (codes "mediaType") (string (media_text Index)) (put (codes "schemaVersion") (number (unsigned 2)) no_members) refl
    (put_plain (codes "schemaVersion") (number (unsigned 2)) no_members refl refl))

-- what was written for a value without floats is its text
pub plain_text : {E : Type 0} (written : Result (String Global) E) (value wanted : Data) → value ≡ wanted → has_float wanted ≡ false
    → IfOk written (λ text. has_float value ≡ false → string_bytes text ≡ compact_text value) → IfOk written (λ text. string_bytes text ≡ compact_text wanted)
plain_text (Ok text) value wanted is plain h = h (ap has_float is ∙ plain) ∙ ap compact_text is
plain_text (Err error) value wanted is plain h = tt

-- the text of the descriptors of manifests is that of their list
pub listing_is : {E : Type 0} (written : Result (String Global) E) (descriptors : List Data) (referrers : List Referrer) → descriptors ≡ map descriptor_value referrers
    → IfOk written (λ text. string_bytes text ≡ compact_text (listing_value (items_of descriptors))) → IfOk written (λ text. string_bytes text ≡ compact_text (referrers_value referrers))
unfolding listing_value referrers_value
listing_is (Ok text) descriptors referrers is h = h ∙ ap (λ ds. compact_text (listing_value (items_of ds))) is
listing_is (Err error) descriptors referrers is h = tt

-- The test of a tag is right, and what is read of a descriptor.
use Rattle.std.proofs.Common.{◌≡◌, ℕ, Bool, true, false, List, [], ◌∷◌, length, Option, Some, None, refl, ap, ◌∙◌}
use Rattle.std.specs.Prelude.{◌&&◌, codes, nat_le}
use Rattle.std.specs.List.{list_all}
use Rattle.std.proofs.lemmas.Bool.{and_from, and_parts, le-leb, leb-true}
use Rattle.std.proofs.lemmas.List.Sums.{AllPass-from_list_all, list_all-from_AllPass}
use Rattle.zot_names.specs.Tag.{IsTag, is_tag_byte, is_word_byte}
use Rattle.serde_json.specs.Data.{Data}
use Rattle.zot_media.specs.Descriptors.{descriptor_of}
use Rattle.zot_media.specs.Media.{media_named}
use Rattle.zot_media.specs.declared.descriptor.Descriptor.{Descriptor}
use Rattle.zot_media.specs.declared.media.Media.{Media}
use Rattle.zot_layout.specs.Moments.{moment_of}
use Rattle.zot_layout.specs.Notes.{is_tag, listed_of, note_of, tag_in, tag_named}
use Rattle.zot_layout.specs.declared.moment.Moment.{Moment}

pub tag_from_test : (text : List ℕ) → is_tag text ≡ true → IsTag text
tag_from_test [] h = cc h
tag_from_test (c ∷ more) h =
    let first = and_parts (is_word_byte c) (list_all is_tag_byte more && nat_le (length more) 127) h in
    let second = and_parts (list_all is_tag_byte more) (nat_le (length more) 127) first.1 in
    record { first = c; more = more; spelled = refl; begins = first.0; bytes = AllPass-from_list_all is_tag_byte more second.0; short = leb-true (length more) 127 second.1 }

pub test_from_tag : (text : List ℕ) → IsTag text → is_tag text ≡ true
test_from_tag text is =
    ap is_tag is.spelled
    ∙ and_from (is_word_byte is.first) (list_all is_tag_byte is.more && nat_le (length is.more) 127) is.begins
    (and_from (list_all is_tag_byte is.more) (nat_le (length is.more) 127) (list_all-from_AllPass is_tag_byte is.more is.bytes) (le-leb (length is.more) 127 is.short))

pub named_some : (text tag : List ℕ) → IsTag text → tag ≡ text → Some tag ≡ tag_named text
named_some text tag is e = rw (test_from_tag text is, e) refl

pub named_none : (text : List ℕ) → (IsTag text → ⊥) → None ≡ tag_named text
named_none text isnt = by (is_tag text) refl where
  by : (b : Bool) → is_tag text ≡ b → None ≡ tag_named text
  by true h = absurd (isnt (tag_from_test text h))
  by false h = rw h refl

-- what a descriptor lists, by its parts
pub listed_is : (value : Data) (descriptor : Descriptor) (text : List ℕ) (media : Option Media) (tag : Option (List ℕ)) (arrived pushed : Moment) (one other : Option Data) → descriptor_of value ≡ Some descriptor
    → tag ≡ tag_in value → media ≡ media_named text → text ≡ descriptor.media → arrived ≡ moment_of one → one ≡ note_of (codes "zot.cluster.arrived") value
    → pushed ≡ moment_of other → other ≡ note_of (codes "zot.cluster.pushed") value
    → listed_of value ≡ Some (record { digest = descriptor.digest; media = media; size = descriptor.size; tag = tag; arrived = arrived; pushed = pushed })
unfolding listed_of
listed_is value descriptor text media tag arrived pushed one other is named known says came here went there = rw (is, named, known, says, came, here, went, there) refl

-- A descriptor that is written is read as what it says.
use Rattle.std.proofs.Common.{◌≡◌, ℕ, ◌<◌, ◌^◌, true, false, List, length, Option, Some, None, arith, refl, sym, ◌∙◌}
use Rattle.std.specs.Prelude.{◌&&◌, codes, decimal, nat_le, nat_lt}
use Rattle.std.specs.Char.{is_ascii_digit}
use Rattle.std.specs.List.{list_all}
use Rattle.std.specs.Str.{all_ascii_digits}
use Rattle.std.proofs.lemmas.Bool.{and_from, le-leb}
use Rattle.std.proofs.lemmas.Fmt.{decimal_nonempty, digits_decimal, digits_value-decimal, length-decimal-le}
use Rattle.std.proofs.lemmas.Str.Parse.{numerals_by_value, tells_all_ascii_digits}
use Rattle.serde_json.specs.Data.{Data, string}
use Rattle.zot_digest.proofs.DigestLemmas.{digest_named-digest_text}
use Rattle.zot_names.specs.Tag.{IsTag}
use Rattle.zot_media.specs.Descriptors.{descriptor_of, digest_in, external_in, size_in, size_within}
use Rattle.zot_media.specs.Fields.{given, list_of, text_of, whole_of}
use Rattle.zot_media.specs.Media.{media_text}
use Rattle.zot_media.proofs.MediaLemmas.{named_text}
use Rattle.zot_layout.specs.Moments.{are_digits, moment_named, moment_of}
use Rattle.zot_layout.specs.Notes.{listed_of, note_of, tag_in}
use Rattle.zot_layout.specs.State.{IsManifest, written_size}
use Rattle.zot_layout.specs.Text.{descriptor_with, tagged, tagged_notes, untagged, untagged_notes}
use Rattle.zot_layout.specs.declared.index_manifest.IndexManifest.{IndexManifest}
use Rattle.zot_layout.specs.declared.index_tag.IndexTag.{IndexTag}
use Rattle.zot_layout.specs.declared.listed.Listed.{Listed}
use Rattle.zot_layout.specs.declared.moment.Moment.{Moment}
use Rattle.zot_layout.specs.declared.moment.Moment.TheVariants.{At, Missing}
use Rattle.zot_layout.proofs.MomentLemmas.{same_test}
use Rattle.zot_layout.proofs.TagLemmas.{test_from_tag}

-- ---- moments

digits : (moment : ℕ) → moment < 2 ^ 64 → are_digits (decimal moment) ≡ true
digits moment small =
    let own = numerals_by_value (λ ds. all_ascii_digits ds ≡ true) tells_all_ascii_digits in
    and_from (nat_lt 0 (length (decimal moment))) (nat_le (length (decimal moment)) 20 && list_all is_ascii_digit (decimal moment)) (le-leb _ _ (decimal_nonempty moment small))
    (and_from (nat_le (length (decimal moment)) 20) (list_all is_ascii_digit (decimal moment)) (le-leb _ _ (length-decimal-le 20 moment (omega arith) (omega arith) small))
    (sym (same_test (decimal moment)) ∙ digits_decimal own moment small))

pub moment_read : (moment : ℕ) → moment < 2 ^ 64 → moment_named (decimal moment) ≡ Some moment
unfolding moment_named
moment_read moment small =
    let own = numerals_by_value (λ ds. all_ascii_digits ds ≡ true) tells_all_ascii_digits in
    rw (digits moment small, digits_value-decimal own moment small, le-leb _ _ small) refl

pub moment_back : (moment : ℕ) → moment < 2 ^ 64 → moment_of (Some (string (decimal moment))) ≡ At moment
moment_back moment small = rw (moment_read moment small) refl

-- ---- descriptors

small_size : (size : ℕ) → size_within (written_size size) ≡ Some (written_size size)
small_size size = rw (le-leb _ _ (below size)) refl where
  below : (size : ℕ) → written_size size < 2 ^ 63
  below size = omega arith

pub descriptor_back : (notes : Data) (manifest : IndexManifest) → IsManifest manifest
    → descriptor_of (descriptor_with notes manifest) ≡ Some (record { media = media_text manifest.media; digest = manifest.digest; size = written_size manifest.size; external = false })
unfolding descriptor_of descriptor_with text_of digest_in size_in whole_of external_in list_of given
descriptor_back notes manifest is = rw (digest_named-digest_text manifest.digest is.digest, small_size manifest.size) refl

-- what is read of a written descriptor
abbrev pub listed_with : IndexManifest → Option (List ℕ) → Moment → Listed
listed_with manifest tag pushed = record { digest = manifest.digest; media = Some manifest.media; size = written_size manifest.size; tag = tag; arrived = At manifest.arrived; pushed = pushed }

-- what is read of a push
abbrev pub pushed_by : Option IndexTag → Moment
pushed_by None = Missing
pushed_by (Some tag) = At tag.pushed

listed_by_parts : (value : Data) (manifest : IndexManifest) (tag : Option (List ℕ)) (pushed : Moment)
    → descriptor_of value ≡ Some (record { media = media_text manifest.media; digest = manifest.digest; size = written_size manifest.size; external = false })
    → tag_in value ≡ tag → moment_of (note_of (codes "zot.cluster.arrived") value) ≡ At manifest.arrived → moment_of (note_of (codes "zot.cluster.pushed") value) ≡ pushed
    → listed_of value ≡ Some (listed_with manifest tag pushed)
unfolding listed_of
listed_by_parts value manifest tag pushed is named arrived pushes = rw (is, named, arrived, pushes, named_text manifest.media) refl

untagged_name : (manifest : IndexManifest) → tag_in (untagged manifest) ≡ None
unfolding tag_in note_of descriptor_with untagged_notes
untagged_name manifest = refl

untagged_arrived : (manifest : IndexManifest) → IsManifest manifest → moment_of (note_of (codes "zot.cluster.arrived") (untagged manifest)) ≡ At manifest.arrived
unfolding note_of descriptor_with untagged_notes
untagged_arrived manifest is = moment_back manifest.arrived is.arrived

untagged_pushed : (manifest : IndexManifest) → moment_of (note_of (codes "zot.cluster.pushed") (untagged manifest)) ≡ Missing
unfolding note_of descriptor_with untagged_notes
untagged_pushed manifest = refl

tagged_name : (manifest : IndexManifest) (tag : IndexTag) → IsTag tag.tag → tag_in (tagged manifest tag) ≡ Some tag.tag
unfolding tag_in note_of descriptor_with tagged_notes
tagged_name manifest tag is = rw (test_from_tag tag.tag is) refl

tagged_arrived : (manifest : IndexManifest) (tag : IndexTag) → IsManifest manifest → moment_of (note_of (codes "zot.cluster.arrived") (tagged manifest tag)) ≡ At manifest.arrived
unfolding note_of descriptor_with tagged_notes
tagged_arrived manifest tag is = moment_back manifest.arrived is.arrived

tagged_pushed : (manifest : IndexManifest) (tag : IndexTag) → tag.pushed < 2 ^ 64 → moment_of (note_of (codes "zot.cluster.pushed") (tagged manifest tag)) ≡ At tag.pushed
unfolding note_of descriptor_with tagged_notes
tagged_pushed manifest tag small = moment_back tag.pushed small

pub untagged_back : (manifest : IndexManifest) → IsManifest manifest → listed_of (untagged manifest) ≡ Some (listed_with manifest None Missing)
untagged_back manifest is =
    listed_by_parts (untagged manifest) manifest None Missing (descriptor_back (untagged_notes manifest) manifest is) (untagged_name manifest) (untagged_arrived manifest is) (untagged_pushed manifest)

pub tagged_back : (manifest : IndexManifest) (tag : IndexTag) → IsManifest manifest → IsTag tag.tag → tag.pushed < 2 ^ 64 → listed_of (tagged manifest tag) ≡ Some (listed_with manifest (Some tag.tag) (At tag.pushed))
tagged_back manifest tag is named small =
    listed_by_parts (tagged manifest tag) manifest (Some tag.tag) (At tag.pushed) (descriptor_back (tagged_notes manifest tag) manifest is)
    (tagged_name manifest tag named) (tagged_arrived manifest tag is) (tagged_pushed manifest tag small)

-- Texts without a byte, and texts that are UTF-8.
use Rattle.std.proofs.Common.{◌≡◌, ℕ, zero, suc, ◌+◌, ◌<◌, ◌≤◌, ◌/◌, ◌%◌, ◌==◌, Bool, true, false, not, nat_lt, inl, inr, List, [], ◌∷◌, length, refl, ap, arith, slice_index}
use Rattle.std.specs.Fmt.{decimal, digit_glyph, digits, digits_onto}
use Rattle.std.specs.Int.{w64, to_be_bytes}
use Rattle.std.specs.List.{AllPass, list_all}
use Rattle.std.specs.Prelude.{All, IsOk, IsUtf8, Ok}
use Rattle.std.proofs.lemmas.Bool.{cases_lt, cond_both, eqb-true}
use Rattle.std.proofs.lemmas.Bool.Decides.{nat_tests}
use Rattle.std.proofs.lemmas.List.{get_or_past}
use Rattle.std.proofs.lemmas.List.Elements.{All-cons, All-nil}
use Rattle.std.proofs.lemmas.List.Sums.{AllPass-from_list_all}
use Rattle.std.proofs.lemmas.Str.{IsUtf8-from_ascii}
use Rattle.hex.proofs.HexLemmas.{IsOk-decode_sized, decode_sized-encode_lower}
use Rattle.hex.specs.Hex.{decode_sized, encode_lower, is_hex_digit}
use Rattle.json.proofs.Printed.Utf8.{IsUtf8-are_ascii}
use Rattle.zot_digest.specs.Digest.{IsDigest, algorithm, digest_text}
use Rattle.zot_media.specs.declared.media.Media.{Media}
use Rattle.zot_media.specs.declared.media.Media.TheVariants.{Image}
use Rattle.zot_media.specs.Media.{media_text}
use Rattle.zot_names.proofs.ByteLemmas.{name_bytes, tag_bytes}
use Rattle.zot_names.proofs.UploadLemmas.{decode_sized-upload_text}
use Rattle.zot_names.specs.Name.{IsName, is_name_byte}
use Rattle.zot_names.specs.Tag.{IsTag, is_tag_byte}
use Rattle.zot_names.specs.Upload.{upload_text}
use Rattle.zot_spell.specs.Heads.{IsFree}
use Rattle.zot_spell.proofs.CutLemmas.{free_append}

-- ---- texts without a byte

not_true : (b : Bool) → (b ≡ true → ⊥) → b ≡ false
not_true true h = absurd (h refl)
not_true false h = refl

pub free_by_test : (end : ℕ) (text : List ℕ) → list_all (λ c. not (c == end)) text ≡ true → IsFree end text
free_by_test end text h = λ k lt. not_true (slice_index text k == end) (λ e. cc (AllPass-from_list_all (λ c. not (c == end)) text h k 0 lt))

differs : (test : ℕ → Bool) (end c : ℕ) → test end ≡ false → test c ≡ true → (c == end) ≡ false
differs test end c isnt is = not_true (c == end) (λ e. let same : test c ≡ test end = ap test (eqb-true c end e) in cc (isnt, is, same))

-- a text whose bytes pass a test that the end doesn't pass
pub free_by : (test : ℕ → Bool) (end : ℕ) (text : List ℕ) → test end ≡ false → AllPass test text → IsFree end text
free_by test end text isnt all = λ k lt. differs test end (slice_index text k) isnt (all k 0 lt)

pub tag_free : (end : ℕ) (tag : List ℕ) → is_tag_byte end ≡ false → IsTag tag → IsFree end tag
tag_free end tag isnt is = free_by is_tag_byte end tag isnt (tag_bytes tag is)

pub name_free : (name : List ℕ) → IsName name → IsFree 13 name
name_free name is = free_by is_name_byte 13 name refl (name_bytes name is)

pub media_free : (media : Media) → IsFree 13 (media_text media)
unfolding media_text
media_free Image = free_by_test 13 (media_text Image) refl
media_free media = free_by_test 13 (media_text media) refl

-- ---- hexadecimal digits

hex_digits : (text : List ℕ) (n : ℕ) (bytes : List ℕ) → decode_sized text n ≡ Ok bytes → AllPass is_hex_digit text
hex_digits text n bytes e = let is_read : IsOk (decode_sized text n) = rw e refl in ((IsOk-decode_sized text n).0 is_read).1

pub digest_free : (digest : List ℕ) → IsDigest digest → IsFree 13 (digest_text digest)
unfolding digest_text
digest_free digest is =
    free_append 13 algorithm (encode_lower digest) (free_by_test 13 algorithm refl) (free_by is_hex_digit 13 (encode_lower digest) refl (hex_digits (encode_lower digest) 32 digest (decode_sized-encode_lower digest 32 is.long is.bytes)))

id_digits : (id : ℕ) → AllPass is_hex_digit (upload_text id)
id_digits id = hex_digits (upload_text id) 8 (to_be_bytes w64 id) (decode_sized-upload_text id)

pub upload_free : (id : ℕ) → IsFree 13 (upload_text id)
upload_free id = free_by is_hex_digit 13 (upload_text id) refl (id_digits id)

-- ---- decimal digits

abbrev IsHigh : ℕ → Type 0
IsHigh c = 48 ≤ c

high_onto : (k n : ℕ) (text : List ℕ) → All IsHigh text → All IsHigh (digits_onto k 10 false n text)
high_onto zero n text h = h
high_onto (suc k) n text h =
    let glyph = digit_glyph false (n % 10) in
    let more = All-cons IsHigh glyph text (cond_both (nat_lt (n % 10) 10) (48 + n % 10) (87 + n % 10) IsHigh (λ e. omega arith) (λ e. omega arith)) h in
    cond_both (n / 10 == 0) (glyph ∷ text) (digits_onto k 10 false (n / 10) (glyph ∷ text)) (All IsHigh) (λ e. more) (λ e. high_onto k (n / 10) (glyph ∷ text) more)

low_differs : (end c : ℕ) → end < 48 → 48 ≤ c → (c == end) ≡ false
low_differs end c low high = grind (arith, nat_tests)

-- no digit is a byte that is lower than they are
pub decimal_free : (end n : ℕ) → end < 48 → IsFree end (decimal n)
unfolding digits
decimal_free end n low = λ k lt. low_differs end (slice_index (decimal n) k) low (high_onto 64 n [] (All-nil IsHigh) k 0 lt)

-- ---- texts that are UTF-8

pub media_is_text : (media : Media) → IsUtf8 (media_text media)
unfolding media_text
media_is_text Image = IsUtf8-are_ascii (media_text Image) refl
media_is_text media = IsUtf8-are_ascii (media_text media) refl

text_by : (test : ℕ → Bool) → ((c : ℕ) → test c ≡ true → c < 128) → (text : List ℕ) → AllPass test text → IsUtf8 text
text_by test small text all =
    IsUtf8-from_ascii text (λ i. elim (cases_lt i (length text)) [
      | inl below ↦ small (slice_index text i) (all i 0 below)
      | inr above ↦ rw (get_or_past text i 0 above) (omega arith)
    ])

pub id_is_text : (id : ℕ) → IsUtf8 (upload_text id)
id_is_text id = text_by is_hex_digit (λ c h. grind (arith, nat_tests)) (upload_text id) (id_digits id)

pub tag_is_text : (tag : List ℕ) → IsTag tag → IsUtf8 tag
tag_is_text tag is = text_by is_tag_byte (λ c h. grind (arith, nat_tests)) tag (tag_bytes tag is)

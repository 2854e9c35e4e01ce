-- Which bytes the texts of a request have.
use Rattle.std.proofs.Common.{◌≡◌, ◌≢◌, ℕ, ◌+◌, ◌/◌, ◌%◌, ◌<◌, ◌^◌, ◌==◌, ◌||◌, Bool, true, cond, ltb, List, [], ◌∷◌, refl, sym, subst, arith, ⊎_elim, IsUtf8, decimal, All, Some}
use Rattle.std.specs.Char.{is_ascii_digit}
use Rattle.std.specs.Int.{w64, to_be_bytes}
use Rattle.std.specs.List.{list_all}
use Rattle.std.proofs.lemmas.Bool.{or_left, and_parts, cond_both, ltb-true}
use Rattle.std.proofs.lemmas.Bool.Decides.{nat_tests}
use Rattle.std.proofs.lemmas.Fmt.{decimal_by_steps, decimal_is_IsNumeral, decimal_nonempty, length-decimal-le}
use Rattle.std.proofs.lemmas.List.Elements.{All-append, All-cons, All-from_recursion, All-nil, All-weaker}
use Rattle.std.proofs.lemmas.List.Sums.{AllPass-from_list_all, list_all-from_AllPass}
use Rattle.std.proofs.lemmas.Str.{IsUtf8-from_ascii}
use Rattle.std.proofs.lemmas.Str.Ascii.{IsAscii-from_all}
use lib.Utf8.{encode, encodes, scalar, scalars, scalar_cases}
use Rattle.hex.specs.Hex.{decode_sized, encode_lower, is_hex_digit}
use Rattle.hex.proofs.HexLemmas.{IsOk-decode_sized, decode_sized-encode_lower}
use Rattle.std.specs.Prelude.{IsOk, Ok}
use Rattle.zot_names.proofs.UploadLemmas.{decode_sized-upload_text}
use Rattle.percent_encoding.proofs.PercentLemmas.{IsByte}
use Rattle.zot_digest.specs.Digest.{IsDigest, algorithm, digest_text}
use Rattle.zot_head.specs.Fields.{length_of}
use Rattle.zot_head.proofs.RuleLemmas.{length_of_some}
use Rattle.zot_names.specs.Name.{IsName, is_name_byte}
use Rattle.zot_names.specs.Tag.{IsTag, is_tag_byte}
use Rattle.zot_names.specs.Upload.{upload_text}
use Rattle.zot_names.proofs.ByteLemmas.{name_bytes, tag_bytes}
use Rattle.zot_model.specs.Valid.{IsShort}

-- a visible byte of ASCII
pub record IsVisible (c : ℕ) : Type 0 where
  pub above : 32 < c
  pub below : c < 127

-- one of which paths are made: neither `?` nor `%`
pub record IsPathByte (c : ℕ) : Type 0 where
  pub visible : IsVisible c
  pub question : c ≢ 63
  pub percent : c ≢ 37

-- one of which the parts of a path are made: nor `/`
pub record IsPartByte (c : ℕ) : Type 0 where
  pub path : IsPathByte c
  pub slash : c ≢ 47

-- a byte of a tag, or a colon
abbrev pub is_part_byte : ℕ → Bool
is_part_byte c = is_tag_byte c || (c == 58)

-- the same, or a slash
abbrev pub is_path_byte : ℕ → Bool
is_path_byte c = is_part_byte c || (c == 47)

path_byte : (c : ℕ) → is_path_byte c ≡ true → IsPathByte c
path_byte c e =
    record {
      visible = record { above = grind (arith, nat_tests); below = grind (arith, nat_tests) };
      question = λ q. grind (arith, nat_tests);
      percent = λ q. grind (arith, nat_tests);
    }

part_byte : (c : ℕ) → is_part_byte c ≡ true → IsPartByte c
part_byte c e = record { path = path_byte c (or_left (is_part_byte c) (c == 47) e); slash = λ q. grind (arith, nat_tests) }

name_byte : (c : ℕ) → is_name_byte c ≡ true → IsPathByte c
name_byte c e = path_byte c (grind (arith, nat_tests))

-- ---- texts of parts

pub literal_path : (text : List ℕ) → list_all is_path_byte text ≡ true → All IsPathByte text
literal_path text e = All-weaker (λ c. is_path_byte c ≡ true) IsPathByte path_byte text (AllPass-from_list_all is_path_byte text e)

pub literal_part : (text : List ℕ) → list_all is_part_byte text ≡ true → All IsPartByte text
literal_part text e = All-weaker (λ c. is_part_byte c ≡ true) IsPartByte part_byte text (AllPass-from_list_all is_part_byte text e)

pub tag_part : (tag : List ℕ) → IsTag tag → All IsPartByte tag
tag_part tag is =
    All-weaker (λ c. is_tag_byte c ≡ true) IsPartByte (λ c h. part_byte c (or_left (is_tag_byte c) (c == 58) h)) tag (tag_bytes tag is)

pub name_path : (name : List ℕ) → IsName name → All IsPathByte name
name_path name is = All-weaker (λ c. is_name_byte c ≡ true) IsPathByte name_byte name (name_bytes name is)

-- a hexadecimal digit, in either case
hex_byte : (c : ℕ) → is_hex_digit c ≡ true → IsPartByte c
hex_byte c e = part_byte c (grind (arith, nat_tests))

-- a text that `hex` reads
hex_part : (text : List ℕ) (n : ℕ) (bytes : List ℕ) → decode_sized text n ≡ Ok bytes → All IsPartByte text
hex_part text n bytes e =
    let is_read : IsOk (decode_sized text n) = rw e refl in
    All-weaker (λ c. is_hex_digit c ≡ true) IsPartByte hex_byte text ((IsOk-decode_sized text n).0 is_read).1

pub digest_part : (digest : List ℕ) → IsDigest digest → All IsPartByte (digest_text digest)
unfolding digest_text
digest_part digest is = All-append IsPartByte algorithm (encode_lower digest) (literal_part algorithm refl) (hex_part (encode_lower digest) 32 digest (decode_sized-encode_lower digest 32 is.long is.bytes))

pub upload_part : (id : ℕ) → All IsPartByte (upload_text id)
upload_part id = hex_part (upload_text id) 8 (to_be_bytes w64 id) (decode_sized-upload_text id)

-- ---- numbers

-- a decimal digit
abbrev IsDigit : ℕ → Type 0
IsDigit c = is_ascii_digit c ≡ true

digit_is : (d : ℕ) → d < 10 → IsDigit (48 + d)
digit_is d lt = grind (arith, nat_tests)

decimal_digits : (n : ℕ) → n < 2 ^ 64 → All IsDigit (decimal n)
decimal_digits n fits =
    decimal_by_steps (λ k text. All IsDigit text)
    (λ k lt. All-cons IsDigit (48 + k) [] (digit_is k lt) (All-nil IsDigit))
    (λ k text le h. All-append IsDigit text ((48 + k % 10) ∷ []) h (All-cons IsDigit (48 + k % 10) [] (digit_is (k % 10) (omega arith)) (All-nil IsDigit)))
    n fits

digit_part_byte : (c : ℕ) → IsDigit c → IsPartByte c
digit_part_byte c e = part_byte c (grind (arith, nat_tests))

pub short_fits : (n : ℕ) → IsShort n → n < 2 ^ 64
short_fits n h = omega arith

pub decimal_part : (n : ℕ) → IsShort n → All IsPartByte (decimal n)
decimal_part n short = All-weaker IsDigit IsPartByte digit_part_byte (decimal n) (decimal_digits n (short_fits n short))

no_dash : (c : ℕ) → IsDigit c → c ≢ 45
no_dash c e same = grind (arith, nat_tests)

pub decimal_no_dash : (n : ℕ) → IsShort n → All (λ c. c ≢ 45) (decimal n)
decimal_no_dash n short = All-weaker IsDigit (λ c. c ≢ 45) no_dash (decimal n) (decimal_digits n (short_fits n short))

-- a number of at most 18 digits is read back
pub length_of-decimal : (n : ℕ) → IsShort n → length_of (decimal n) ≡ Some n
length_of-decimal n short =
    let fits = short_fits n short in
    let value = (decimal_is_IsNumeral n fits).1 in
    sym (length_of_some (decimal n) n (decimal_nonempty n fits) (length-decimal-le 18 n (omega arith) short fits) (list_all-from_AllPass is_ascii_digit (decimal n) (decimal_digits n fits)) (sym value))

-- ---- texts are bytes, and these are texts

char_bytes : (c : ℕ) → scalar c ≡ true → All IsByte (encode c)
unfolding encode
char_bytes c e =
    let most : c < 1114112 = ⊎_elim (λ h. omega arith) (λ h. h.1) (scalar_cases c e) in
    let two = (192 + c / 64) ∷ (128 + c % 64) ∷ [] in
    let three = (224 + c / 4096) ∷ (128 + c / 64 % 64) ∷ (128 + c % 64) ∷ [] in
    let four = (240 + c / 262144) ∷ (128 + c / 4096 % 64) ∷ (128 + c / 64 % 64) ∷ (128 + c % 64) ∷ [] in
    cond_both (ltb c 128) (c ∷ []) (cond (ltb c 2048) two (cond (ltb c 65536) three four)) (All IsByte)
    (λ h. let lt = ltb-true c 128 h in All-from_recursion IsByte (c ∷ []) (omega arith, tt))
    (λ h0. cond_both (ltb c 2048) two (cond (ltb c 65536) three four) (All IsByte)
    (λ h. let lt = ltb-true c 2048 h in All-from_recursion IsByte two (omega arith, (omega arith, tt)))
    (λ h1. cond_both (ltb c 65536) three four (All IsByte)
    (λ h. let lt = ltb-true c 65536 h in All-from_recursion IsByte three (omega arith, (omega arith, (omega arith, tt))))
    (λ h. All-from_recursion IsByte four (omega arith, (omega arith, (omega arith, (omega arith, tt)))))))

chars_bytes : (cs : List ℕ) → scalars cs ≡ true → All IsByte (encodes cs)
chars_bytes [] e = All-nil IsByte
chars_bytes (c ∷ cs) e =
    let p = and_parts (scalar c) (scalars cs) e in
    All-append IsByte (encode c) (encodes cs) (char_bytes c p.0) (chars_bytes cs p.1)

pub text_bytes : (text : List ℕ) → IsUtf8 text → All IsByte text
text_bytes text is = subst (All IsByte) is.1.1 (chars_bytes is.0 is.1.0)

pub visible_text : (text : List ℕ) → All IsVisible text → IsUtf8 text
visible_text text all = IsUtf8-from_ascii text (IsAscii-from_all text (All-weaker IsVisible (λ c. c < 128) (λ c h. let lt = h.below in omega arith) text all))

pub part_path : (text : List ℕ) → All IsPartByte text → All IsPathByte text
part_path text all = All-weaker IsPartByte IsPathByte (λ c h. h.path) text all

pub path_visible : (text : List ℕ) → All IsPathByte text → All IsVisible text
path_visible text all = All-weaker IsPathByte IsVisible (λ c h. h.visible) text all

pub part_text : (text : List ℕ) → All IsPartByte text → IsUtf8 text
part_text text all = visible_text text (path_visible text (part_path text all))

pub path_is_text : (text : List ℕ) → All IsPathByte text → IsUtf8 text
path_is_text text all = visible_text text (path_visible text all)

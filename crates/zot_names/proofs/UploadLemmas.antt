-- The text of an upload's id is read as that id.
use Rattle.std.proofs.Common.{◌≡◌, ℕ, zero, suc, ◌/◌, ◌%◌, ◌<◌, ◌^◌, true, List, Some, Ok, arith, refl, sym, ap, ◌∙◌}
use Rattle.std.specs.Bool.{then_some}
use Rattle.std.specs.Int.{w64, byte_at, bytes_high_first, from_be_bytes, to_be_bytes}
use Rattle.std.specs.Str.{bytes_eq}
use Rattle.std.proofs.lemmas.Nat.{from_be_bytes-to_be_bytes_8}
use Rattle.std.proofs.lemmas.Slice.Eq.{bytes_eq-Decides}
use Rattle.hex.specs.Hex.{IsBytes, decode_sized}
use Rattle.hex.proofs.HexLemmas.{decode_sized-encode_lower}
use Rattle.zot_names.specs.Upload.{upload_text}

is_byte : (k number : ℕ) → byte_at k number < 256
is_byte zero number = omega arith
is_byte (suc k) number = let rest = number / 256 ^ suc k in let small : rest % 256 < 256 = omega arith in small

are_bytes : (n number : ℕ) → IsBytes (bytes_high_first n number)
are_bytes zero number i = omega arith
are_bytes (suc n) number zero = is_byte n number
are_bytes (suc n) number (suc i) = are_bytes n number i

pub decode_sized-upload_text : (id : ℕ) → decode_sized (upload_text id) 8 ≡ Ok (to_be_bytes w64 id)
unfolding upload_text
decode_sized-upload_text id = decode_sized-encode_lower (to_be_bytes w64 id) 8 refl (are_bytes 8 id)

-- a reader that writes the number again takes the text of an id as that id
pub read_again : (text bytes : List ℕ) (id : ℕ) → id < 2 ^ 64 → text ≡ upload_text id → decode_sized text 8 ≡ Ok bytes
    → then_some (bytes_eq (upload_text (from_be_bytes w64 bytes)) text) (from_be_bytes w64 bytes) ≡ Some id
read_again text bytes id fits e d =
    let same : bytes ≡ to_be_bytes w64 id = cc (d, ap (λ t. decode_sized t 8) e, decode_sized-upload_text id) in
    let number : from_be_bytes w64 bytes ≡ id = ap (from_be_bytes w64) same ∙ from_be_bytes-to_be_bytes_8 id fits in
    let again : bytes_eq (upload_text id) text ≡ true = (bytes_eq-Decides (upload_text id) text).1 (sym e) in
    rw (number, again) refl

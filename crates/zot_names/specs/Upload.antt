-- Ids of uploads and their texts, on lists of bytes.
use Rattle.std.specs.Prelude.{ℕ, List}
use Rattle.std.specs.Int.{w64, to_be_bytes}
use Rattle.hex.specs.Hex.{encode_lower}

-- the text of an id: the 16 lower-case hexadecimal digits of its number, the highest ones first
unfoldable pub upload_text : ℕ → List ℕ
upload_text number = encode_lower (to_be_bytes w64 number)

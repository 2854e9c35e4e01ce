-- SHA-256 digests (FIPS 180-4) and their texts (OCI Image Specification, "Digests"), on lists of bytes.
use Rattle.std.specs.Prelude.{◌≡◌, ℕ, ◌&&◌, nat_le, Bool, if◌then◌else◌, List, ◌++◌, length, take, drop, Option, None, codes}
use Rattle.std.specs.List.{list_any}
use Rattle.std.specs.Result.{result_ok}
use Rattle.std.specs.Str.{bytes_eq}
use Rattle.hex.specs.Hex.{decode_sized, encode_lower, IsBytes}
use Rattle.sha2.specs.Sha256.{sha256}

-- the bytes of a SHA-256 value
pub record IsDigest (digest : List ℕ) : Type 0 where
  pub long : length digest ≡ 32
  pub bytes : IsBytes digest

-- the digest is the SHA-256 value of these bytes
abbrev pub IsSound : List ℕ → List ℕ → Type 0
IsSound digest bytes = digest ≡ sha256 bytes

-- the same as a test
abbrev pub is_sound : List ℕ → List ℕ → Bool
is_sound digest bytes = bytes_eq digest (sha256 bytes)

-- the algorithm's name and a colon
abbrev pub algorithm : List ℕ
algorithm = codes "sha256:"

-- a digest's text: the algorithm, and each byte as two lower-case hexadecimal digits
unfoldable pub digest_text : List ℕ → List ℕ
digest_text digest = algorithm ++ encode_lower digest

-- an upper-case letter, which no digest's text has
abbrev pub is_upper : ℕ → Bool
is_upper c = nat_le 65 c && nat_le c 90

-- the digest that 64 lower-case hexadecimal digits stand for
unfoldable pub digest_of_digits : List ℕ → Option (List ℕ)
digest_of_digits digits = if list_any is_upper digits then None else result_ok (decode_sized digits 32)

-- the digest whose text this is, or none where it is no digest's text
unfoldable pub digest_named : List ℕ → Option (List ℕ)
digest_named text = if bytes_eq (take 7 text) algorithm then digest_of_digits (drop 7 text) else None

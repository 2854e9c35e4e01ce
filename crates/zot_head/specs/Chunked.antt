-- A body in chunks (RFC 9112, section 7.1): chunks, the last of size 0, and a trailer section. Departing from
-- it, an extension (7.1.1) follows the size with no blank between and has no byte above 0x7e, and the lines of a
-- trailer section (7.1.2) aren't read, so that any but an empty one passes.
use Rattle.std.specs.Prelude.{◌≤◌, ◌<◌, ◌≡◌, ℕ, zero, suc, ◌-◌, Bool, true, false, ◌&&◌, ◌||◌, List, [], ◌∷◌, ◌++◌, length, take, drop, if◌then◌else◌, ◌==◌, nat_lt, nat_le, Option, Some, None, take_while}
use Rattle.std.specs.List.{flat_map, AllByRecursion}
use Rattle.std.specs.Char.{is_ascii_hexdigit}
use Rattle.std.specs.Str.Parse.{digits_value}
use Rattle.httparse.specs.Ascii.{tab, line_feed, carriage_return, semicolon, crlf_bytes}
use Rattle.zot_head.specs.declared.chunk_error.ChunkError.{ChunkError}
use Rattle.zot_head.specs.declared.chunk_error.ChunkError.TheVariants.{Bad, TooLong, TooLarge}
use Rattle.zot_head.specs.Limits.{chunk_line_limit, trailer_limit}
use Rattle.zot_head.specs.Lines.{line_end, section_end, Extent, Ends, Passes, Goes, extent}

-- a byte of a chunk extension: a tab, or one from 0x20 to 0x7e
abbrev pub is_extension_byte : ℕ → Bool
is_extension_byte b = b == tab || (nat_le 32 b && nat_le b 126)

-- LF and nothing else
abbrev pub is_feed : List ℕ → Bool
is_feed [] = false
is_feed (b ∷ []) = b == line_feed
is_feed (b ∷ c ∷ bytes) = false

-- bytes of an extension, then CR LF and nothing else
abbrev pub ends_extension : List ℕ → Bool
ends_extension [] = false
ends_extension (b ∷ bytes) = if is_extension_byte b then ends_extension bytes else b == carriage_return && is_feed bytes

-- what may stand after a chunk's size: CR LF, or a semicolon, an extension and CR LF
abbrev pub ends_size : List ℕ → Bool
ends_size [] = false
ends_size (b ∷ bytes) = if b == semicolon then ends_extension bytes else b == carriage_return && is_feed bytes

-- the hexadecimal digits in front
abbrev pub hex_digits : List ℕ → List ℕ
hex_digits line = take_while is_ascii_hexdigit line

-- the size that a chunk's line gives: 1 to 16 hexadecimal digits, and then its end
unfoldable pub size_of : List ℕ → Option ℕ
size_of line =
    if nat_lt 0 (length (hex_digits line)) && nat_le (length (hex_digits line)) 16 && ends_size (drop (length (hex_digits line)) line)
    then Some (digits_value 16 (hex_digits line)) else None

-- What bytes say of a body in chunks from a place in it on: it is whole, and what follows it; it isn't
-- whole yet; or it is broken. Each has the body's bytes that come before.
pub data Body : Type 0 where
  Whole : List ℕ → List ℕ → Body
  Unfinished : List ℕ → Body
  Broken : List ℕ → ChunkError → Body

-- the same with these bytes of the body in front
abbrev pub body_after : List ℕ → Body → Body
body_after given (Whole body rest) = Whole (given ++ body) rest
body_after given (Unfinished body) = Unfinished (given ++ body)
body_after given (Broken body error) = Broken (given ++ body) error

-- the trailer section, which is dropped: lines through the first empty one
abbrev pub from_trailer : Extent → List ℕ → Body
from_trailer (Ends n) bytes = Whole [] (drop n bytes)
from_trailer Passes bytes = Broken [] TooLong
from_trailer Goes bytes = Unfinished []

-- the CR LF after a chunk's bytes, and what `next` says of the bytes after it
abbrev pub from_tail : (List ℕ → Body) → List ℕ → Body
from_tail next [] = Unfinished []
from_tail next (a ∷ []) = Unfinished []
from_tail next (a ∷ b ∷ bytes) = if a == carriage_return && b == line_feed then next bytes else Broken [] Bad

-- so many bytes of a chunk, and its CR LF
abbrev pub from_bytes : (List ℕ → Body) → ℕ → List ℕ → Body
from_bytes next size bytes =
    if nat_lt (length bytes) size then Unfinished bytes
    else body_after (take size bytes) (from_tail next (drop size bytes))

-- what stands after a chunk's line of that size, where so many bytes of a body are left
abbrev pub from_size : (ℕ → List ℕ → Body) → ℕ → Option ℕ → List ℕ → Body
from_size next room None bytes = Broken [] Bad
from_size next room (Some zero) bytes = from_trailer (extent (section_end true) trailer_limit bytes) bytes
from_size next room (Some (suc n)) bytes =
    if nat_lt room (suc n) then Broken [] TooLarge
    else from_bytes (next (room - suc n)) (suc n) bytes

-- a chunk's line, and what stands after it
abbrev pub from_line : (ℕ → List ℕ → Body) → ℕ → Extent → List ℕ → Body
from_line next room (Ends n) bytes = from_size next room (size_of (take n bytes)) (drop n bytes)
from_line next room Passes bytes = Broken [] Bad
from_line next room Goes bytes = Unfinished []

-- at most so many chunks, of which the body may have so many bytes more
abbrev pub chunks : ℕ → ℕ → List ℕ → Body
chunks zero room bytes = Unfinished []
chunks (suc count) room bytes = from_line (chunks count) room (extent line_end chunk_line_limit bytes) bytes

-- A body in chunks, which has at most so many bytes. It has fewer chunks than the list has bytes.
unfoldable pub chunked : ℕ → List ℕ → Body
chunked room bytes = chunks (suc (length bytes)) room bytes

-- a chunk as it is sent: its line, with its CR LF, and its bytes
pub record Chunk : Type 0 where
  pub line : List ℕ
  pub bytes : List ℕ

-- the bytes that are sent of a chunk
abbrev pub print_chunk : Chunk → List ℕ
print_chunk c = c.line ++ (c.bytes ++ crlf_bytes)

-- one line that gives that size, and is short enough
pub record IsSizeLine (line : List ℕ) (size : ℕ) : Type 0 where
  pub one : line_end line ≡ Some (length line)
  pub short : length line ≤ chunk_line_limit
  pub size_is : size_of line ≡ Some size

-- the line gives the number of the chunk's bytes, of which there is at least one
pub record IsChunk (c : Chunk) : Type 0 where
  pub line : IsSizeLine c.line (length c.bytes)
  pub some : 0 < length c.bytes

-- lines through the first empty one, which is the last, and short enough together
pub record IsTrailer (trailer : List ℕ) : Type 0 where
  pub one : section_end true trailer ≡ Some (length trailer)
  pub short : length trailer ≤ trailer_limit

-- the bytes of a body as they are sent: chunks, a line of size 0, and a trailer section
pub record IsSent (text body : List ℕ) : Type 0 where
  pub chunks : List Chunk
  pub last : List ℕ
  pub trailer : List ℕ
  pub each : AllByRecursion IsChunk chunks
  pub last_is : IsSizeLine last 0
  pub trailer_is : IsTrailer trailer
  pub text_is : text ≡ flat_map print_chunk chunks ++ (last ++ trailer)
  pub body_is : body ≡ flat_map (λ c. c.bytes) chunks

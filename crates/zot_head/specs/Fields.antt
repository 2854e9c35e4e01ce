-- What a head's fields say of its body and its connection (RFC 9112, sections 6.1 to 6.3, 9.3 and 9.6). Names
-- and the words of values are compared without regard to case.
use Rattle.std.specs.Prelude.{ℕ, Bool, true, false, ◌&&◌, ◌||◌, List, [], ◌∷◌, length, map, if◌then◌else◌, ◌==◌, nat_lt, nat_le, Option, Some, None, codes}
use Rattle.std.specs.List.{list_any, list_all, slice_split}
use Rattle.std.specs.Str.{bytes_eq}
use Rattle.std.specs.Str.Parse.{digits_value}
use Rattle.std.specs.Char.{is_ascii_digit, to_ascii_lowercase}
use Rattle.httparse.specs.Ascii.{comma}
use Rattle.httparse.specs.Grammar.{trim_ows}
use Rattle.zot_head.specs.declared.field.Field.{Field}
use Rattle.zot_head.specs.declared.framing.Framing.{Framing}
use Rattle.zot_head.specs.declared.framing.Framing.TheVariants as framings

-- whether the bytes are that word, which has no capital letter
abbrev pub is_word : List ℕ → List ℕ → Bool
is_word word bytes = bytes_eq (map to_ascii_lowercase bytes) word

-- the values of the fields of that name
abbrev pub values_of : List ℕ → List Field → List (List ℕ)
values_of name [] = []
values_of name (f ∷ fields) = if is_word name f.name then f.value ∷ values_of name fields else values_of name fields

-- the number that 1 to 18 decimal digits write (RFC 9112, section 6.2)
unfoldable pub length_of : List ℕ → Option ℕ
length_of value =
    if nat_lt 0 (length value) && nat_le (length value) 18 && list_all is_ascii_digit value
    then Some (digits_value 10 value) else None

-- a body of that length, if there is one
abbrev pub framing_by_length : Option ℕ → Option Framing
framing_by_length None = None
framing_by_length (Some n) = Some (framings.Length n)

-- The framing that the values of `Content-Length` and of `Transfer-Encoding` give (RFC 9112, section 6.3):
-- one length, or the one coding `chunked`, or neither. Nothing else has a framing. Departing from section 6.1,
-- another coding is refused as no framing (400 and not 501), and a request of version 1.0 may come in chunks.
abbrev pub framing_by : List (List ℕ) → List (List ℕ) → Option Framing
framing_by [] [] = Some framings.None
framing_by (value ∷ []) [] = framing_by_length (length_of value)
framing_by [] (value ∷ []) = if is_word (codes "chunked") value then Some framings.Chunked else None
framing_by lengths codings = None

-- how the body is framed, or none where the fields have no framing
unfoldable pub framing_of : List Field → Option Framing
framing_of fields = framing_by (values_of (codes "content-length") fields) (values_of (codes "transfer-encoding") fields)

-- there is a body of at least one byte, or one in chunks
abbrev pub has_body : Framing → Bool
has_body framings.None = false
has_body (framings.Length n) = nat_lt 0 n
has_body framings.Chunked = true

-- whether a field asks for a `100 Continue` (RFC 9110, section 10.1.1)
unfoldable pub is_expectation : Field → Bool
is_expectation f = is_word (codes "expect") f.name && is_word (codes "100-continue") f.value

-- whether a `100 Continue` is owed before the body is read, at that minor version
abbrev pub expects_of : ℕ → List Field → Framing → Bool
expects_of minor fields framing = minor == 1 && has_body framing && list_any is_expectation fields

-- the word that asks to close the connection
unfoldable pub close_word : List ℕ
close_word = codes "close"

-- whether a value of `Connection` has `close` between two commas, but for spaces and tabs around it
abbrev pub lists_close : List ℕ → Bool
lists_close value = list_any (λ piece. is_word close_word (trim_ows piece)) (slice_split (λ b. b == comma) value)

-- whether a field asks to close the connection
unfoldable pub is_close : Field → Bool
is_close f = is_word (codes "connection") f.name && lists_close f.value

-- whether the connection closes after a request of that minor version (RFC 9112, sections 9.3 and 9.6): in
-- version 1.0 always, so `keep-alive` isn't honored
abbrev pub closes_of : ℕ → List Field → Bool
closes_of minor fields = minor == 0 || list_any is_close fields

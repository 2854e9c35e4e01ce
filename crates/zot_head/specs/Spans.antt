-- What spans of a head cover.
use Rattle.std.specs.Prelude.{ℕ, List, length, IsUtf8}
use Rattle.httparse.specs.Spans.{span_bytes, IsHeaderWithin}
use Rattle.httparse.specs.declared.spans.HeaderSpan.{HeaderSpan}
use Rattle.zot_head.specs.declared.field.Field.{Field}

-- the field that a header's spans cover
abbrev pub field_at : List ℕ → HeaderSpan → Field
field_at bytes span = record { name = span_bytes bytes span.name; value = span_bytes bytes span.value }

-- the spans of a header lie within the bytes, and its name is text
pub record HasTexts (bytes : List ℕ) (span : HeaderSpan) : Type 0 where
  pub within : IsHeaderWithin (length bytes) span
  pub text : IsUtf8 (span_bytes bytes span.name)

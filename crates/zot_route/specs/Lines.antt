-- What a head's fields say of a request: the first line of a name counts.
use Rattle.std.specs.Prelude.{◌≡◌, ℕ, ◌==◌, not, Bool, true, false, nat_le, if◌then◌else◌, List, [], ◌∷◌, Option, Some, None, codes}
use Rattle.std.specs.List.{after_first, before_first, filter}
use Rattle.zot_head.specs.declared.field.Field.{Field}
use Rattle.zot_head.specs.Fields.{length_of, values_of}
use Rattle.zot_media.specs.declared.media.Media.{Media}
use Rattle.zot_media.specs.Document.{media_in}
use Rattle.zot_media.specs.Media.{media_named}
use Rattle.zot_model.specs.declared.span.Span.{Span}

-- the range whose ends these are
abbrev pub span_by : Option ℕ → Option ℕ → Option Span
span_by (Some start) (Some end) = if nat_le start end then Some (record { start = start; end = end }) else None
span_by (Some start) None = None
span_by None end = None

-- the range that a text writes, its first and its last place in 1 to 18 digits each, with a `-` between them (OCI Distribution Specification, "Pushing a blob in chunks")
unfoldable pub span_of : List ℕ → Option Span
span_of text = span_by (length_of (before_first (λ b. b == 45) text)) (length_of (after_first (λ b. b == 45) text))

-- a range that is there, or nothing where it is none
abbrev pub some_span : Option Span → Option (Option Span)
some_span None = None
some_span (Some span) = Some (Some span)

-- the range that the first of these values writes, no range where there is no value, and nothing where it writes none
abbrev pub range_by : List (List ℕ) → Option (Option Span)
range_by [] = Some None
range_by (value ∷ values) = some_span (span_of value)

-- the range of a body in an upload
unfoldable pub range_of : List Field → Option (Option Span)
range_of fields = range_by (values_of (codes "content-range") fields)

-- a media type without its parameters (RFC 9110, section 8.3.1), and without any spaces, which this registry drops
unfoldable pub type_of : List ℕ → List ℕ
type_of value = filter (λ b. not (b == 32)) (before_first (λ b. b == 59) value)

-- the media that the first of these values names, or where there is none, those that the body names
abbrev pub AreMediaBy : List (List ℕ) → List ℕ → Option Media → Type 0
AreMediaBy [] body media = media ≡ media_in body
AreMediaBy (value ∷ values) body media = media ≡ media_named (type_of value)

-- the media of a pushed manifest
unfoldable pub AreMedia : List Field → List ℕ → Option Media → Type 0
AreMedia fields body media = AreMediaBy (values_of (codes "content-type") fields) body media

-- whether there is a value
abbrev pub is_there : List (List ℕ) → Bool
is_there [] = false
is_there (value ∷ values) = true

-- whether another member handed the request on, whatever the field's value is
unfoldable pub is_hop : List Field → Bool
is_hop fields = is_there (values_of (codes "x-zot-cluster-hop-count") fields)

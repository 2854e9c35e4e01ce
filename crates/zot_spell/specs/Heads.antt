-- The fields of messages, and their lines (RFC 9112, sections 2.1 and 5), on lists of bytes.
use Rattle.std.specs.Prelude.{ℕ, ◌≡◌, ◌<◌, ◌==◌, false, List, [], ◌∷◌, ◌++◌, length, slice_index, Option, Some, None, codes, if◌then◌else◌, flat_map}
use Rattle.std.specs.Fmt.{decimal}
use Rattle.std.specs.List.{AllByRecursion}
use Rattle.std.specs.Str.{bytes_eq}
use Rattle.zot_spell.specs.declared.field.Field.{Field}
use Rattle.zot_spell.specs.declared.field_name.FieldName.{FieldName}
use Rattle.zot_spell.specs.declared.field_name.FieldName.TheVariants as names

-- the text of a field's name
unfoldable pub name_text : FieldName → List ℕ
name_text names.Allow = codes "Allow"
name_text names.ApiVersion = codes "Docker-Distribution-Api-Version"
name_text names.Connection = codes "Connection"
name_text names.ContentDigest = codes "Docker-Content-Digest"
name_text names.ContentLength = codes "Content-Length"
name_text names.ContentRange = codes "Content-Range"
name_text names.ContentType = codes "Content-Type"
name_text names.FiltersApplied = codes "OCI-Filters-Applied"
name_text names.HopCount = codes "X-Zot-Cluster-Hop-Count"
name_text names.Host = codes "Host"
name_text names.Link = codes "Link"
name_text names.Location = codes "Location"
name_text names.Range = codes "Range"
name_text names.Subject = codes "OCI-Subject"
name_text names.UploadId = codes "Docker-Upload-UUID"

-- the field of this name with this value
unfoldable pub field_of : FieldName → List ℕ → Field
field_of name value = record { name = name_text name; value = value }

-- the field that names the media of a body, where there is one (RFC 9110, section 8.3)
unfoldable pub type_fields : Option (List ℕ) → List Field
type_fields None = []
type_fields (Some media) = field_of names.ContentType media ∷ []

-- the field that names the size of a body in bytes (RFC 9110, section 8.6)
unfoldable pub length_field_of : ℕ → Field
length_field_of size = field_of names.ContentLength (decimal size)

-- ---- lines

-- a field line
abbrev pub field_line : Field → List ℕ
field_line field = field.name ++ (58 ∷ (32 ∷ (field.value ++ (13 ∷ (10 ∷ [])))))

-- field lines and the empty line after them
abbrev pub fields_text : List Field → List ℕ
fields_text fields = flat_map field_line fields ++ (13 ∷ (10 ∷ []))

-- the value of the first field of this name, where there is one
abbrev pub value_in : List ℕ → List Field → Option (List ℕ)
value_in name [] = None
value_in name (field ∷ fields) = if bytes_eq field.name name then Some field.value else value_in name fields

-- no byte of the text is this one
abbrev pub IsFree : ℕ → List ℕ → Type 0
IsFree end text = (k : ℕ) → k < length text → (slice_index text k == end) ≡ false

-- a field that a message may have: its name has neither a colon nor a CR, and its value has no CR (RFC 9110, sections 5.1 and 5.5)
pub record IsField (field : Field) : Type 0 where
  pub name : IsFree 58 field.name
  pub line : IsFree 13 field.name
  pub value : IsFree 13 field.value

-- fields that a message may have
abbrev pub AreFields : List Field → Type 0
AreFields fields = AllByRecursion IsField fields

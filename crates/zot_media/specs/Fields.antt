-- The fields of a document's objects, by the value that `serde_json` reads in its bytes (RFC 8259). Of a field that
-- stands twice the last one counts, as `serde_json` reads it. A value that is no object has no fields.
use Rattle.std.specs.Prelude.{ℕ, List, [], ◌∷◌, Option, Some, None, option_map, option_and_then, if◌then◌else◌}
use Rattle.std.specs.Str.{is_utf8}
use Rattle.serde_json.specs.Data.{Data, null, Items, no_items, item, Members, no_members, member}
use Rattle.serde_json.specs.Find.{get, as_array, as_number, as_str, as_u64}
use Rattle.serde_json.specs.Read.{read}

-- one step after another, where each has a result
infixl 10 ◌>>=◌
abbrev pub ◌>>=◌ : {A B : Type 0} → Option A → (A → Option B) → Option B
found >>= next = option_and_then next found

-- the value that the bytes are: a text in UTF-8, nested no deeper than 127 levels
unfoldable pub document : List ℕ → Option Data
document bytes = if is_utf8 bytes then read bytes else None

-- a value that isn't null
abbrev pub unless_null : Data → Option Data
unless_null null = None
unless_null value = Some value

-- the value of a field that is there and isn't null
unfoldable pub given : List ℕ → Data → Option Data
given name value = get name value >>= unless_null

-- the text that a field is
unfoldable pub text_of : List ℕ → Data → Option (List ℕ)
text_of name value = get name value >>= as_str

-- the whole number that a field is, from 0 and below 2 ^ 64: neither `2.0` nor `-0` is one
unfoldable pub whole_of : List ℕ → Data → Option ℕ
whole_of name value = get name value >>= as_number >>= as_u64

-- each element is read, or there is no result
abbrev pub each : {A B : Type 0} → (A → Option B) → List A → Option (List B)
each reads [] = Some []
each reads (x ∷ xs) = do
  first ← reads x
  others ← each reads xs
  Some (first ∷ others)

-- the values of an array
abbrev pub values_of : Items → List Data
values_of no_items = []
values_of (item value others) = value ∷ values_of others

-- the keys and values of an object, in byte order of the keys
abbrev pub pairs_of : Members → List (List ℕ × Data)
pairs_of no_members = []
pairs_of (member key value others) = (key, value) ∷ pairs_of others

-- the values of an array that may be missing
abbrev pub listed : Option Data → Option (List Data)
listed None = Some []
listed (Some field) = option_map values_of (as_array field)

-- the values of a field that is an array; a field that is missing or null counts as an empty one
unfoldable pub list_of : List ℕ → Data → Option (List Data)
list_of name value = listed (given name value)

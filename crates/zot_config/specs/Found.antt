-- The text of what was found in the place of a field.
use Rattle.std.specs.Prelude.{ℕ, List, Option, Some, None, codes, if◌then◌else◌}
use Rattle.serde_json.specs.Data.{Data}
use Rattle.serde_json.specs.Find.{as_str}
use Rattle.serde_json.specs.Written.{compact_text, has_float}

-- a value's JSON, compact and with the names in byte order; `not whole` where it has a number that isn't whole
unfoldable pub json_text : Data → List ℕ
json_text d = if has_float d then codes "not whole" else compact_text d

-- a text as it stands, and else the value's JSON
abbrev pub text_or : Option (List ℕ) → Data → List ℕ
text_or (Some text) d = text
text_or None d = json_text d

unfoldable pub missing : List ℕ
missing = codes "missing"

-- the text of a value, or `missing` where it isn't there
abbrev pub found : Option Data → List ℕ
found None = missing
found (Some d) = text_or (as_str d) d

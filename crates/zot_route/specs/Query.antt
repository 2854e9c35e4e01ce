-- What a query says (URL Standard, section 5), on lists of bytes.
use Rattle.std.specs.Prelude.{ℕ, if◌then◌else◌, List, [], ◌∷◌, Option, Some, None}
use Rattle.std.specs.Str.{bytes_eq}
use Rattle.std.specs.Str.Lossy.{utf8_lossy}
use Rattle.form_urlencoded.specs.Form.{decode, raw_pairs}

-- the text that an encoded key or value stands for
abbrev pub text_of : List ℕ → List ℕ
text_of bytes = utf8_lossy (decode bytes)

-- the values of a key, in their order
abbrev pub values_in : List ℕ → List (List ℕ × List ℕ) → List (List ℕ)
values_in key [] = []
values_in key (pair ∷ pairs) = if bytes_eq (text_of pair.0) key then text_of pair.1 ∷ values_in key pairs else values_in key pairs

-- the first of them
abbrev pub first_of : List (List ℕ) → Option (List ℕ)
first_of [] = None
first_of (value ∷ values) = Some value

-- the first value of a key in a query
abbrev pub value_of : List ℕ → List ℕ → Option (List ℕ)
value_of key query = first_of (values_in key (raw_pairs query))

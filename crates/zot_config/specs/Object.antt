-- An object of the configuration, and its fields.
use Rattle.std.specs.Prelude.{ℕ, ◌+◌, nat_lt, Bool, false, if◌then◌else◌, List, Option, Some, None, ok_or, option_and_then, option_map, Ok, Err}
use Rattle.std.specs.Str.{bytes_eq}
use Rattle.json.specs.Json as json
use Rattle.json.specs.Find as text
use Rattle.json.specs.Value.{value_view}
use Rattle.serde_json.specs.Data.{Data}
use Rattle.serde_json.specs.Find.{get}
use Rattle.serde_json.specs.View.{view}
use Rattle.serde_json.specs.declared.value.Value.{Value}
use Rattle.std.specs.Borrow.{Bor}
use Rattle.zot_config.specs.declared.field.Field.{Field}
use Rattle.zot_config.specs.declared.object.Object as code
use Rattle.zot_config.specs.declared.wrong.Wrong.{Wrong}
use Rattle.zot_config.specs.Fields.{name_of, path_of}
use Rattle.zot_config.specs.Found.{found}
use Rattle.zot_config.specs.Wrong.{Read, after}

-- an object, or none: its value as `serde_json` reads it, which keeps the last of repeated fields, and the same with each field as it stands in the text
pub record Object : Type 0 where
  pub value : Option Data
  pub text : Option json.Json

-- the object that the code holds
abbrev pub seen : code.Object → Object
seen o = record { value = option_map (λ v. view v.now) o.value; text = option_map (λ v. value_view v.now) o.text }

-- the value that a reference refers to
abbrev pub data_of : Option (Bor Value) → Option Data
data_of value = option_map (λ v. view v.now) value

-- how many fields of an object have this name
abbrev pub count_of : List ℕ → json.Members → ℕ
count_of name json.no_members = 0
count_of name (json.member k j rest) = (if bytes_eq k name then 1 else 0) + count_of name rest

-- the value of the field, if it is there
abbrev pub value_at : Field → Object → Option Data
value_at field object = option_and_then (get (name_of field)) object.value

-- whether it stands twice
abbrev pub repeats_in : List ℕ → Option json.Members → Bool
repeats_in name None = false
repeats_in name (Some members) = nat_lt 1 (count_of name members)

abbrev pub repeats : Field → Object → Bool
repeats field object = repeats_in (name_of field) (option_and_then text.as_object object.text)

-- the field is wrong
abbrev pub wrong : Field → Option Data → Wrong
wrong field value = record { field = path_of field; found = found value }

-- the value of a field, which doesn't stand twice
abbrev pub single : Field → Object → Read (Option Data)
single field object = if repeats field object then Err (wrong field (value_at field object)) else Ok (value_at field object)

-- a field whose value, or whose lack, has the form
abbrev pub read_field : {A : Type 0} → Field → (Option Data → Option A) → Object → Read A
read_field field form object = after (single field object) (λ value. ok_or (form value) (wrong field value))

-- The forms of the fields: what a value, or its lack, stands for, or none where it is wrong.
use Rattle.std.specs.Prelude.{ℕ, ◌==◌, ◌&&◌, nat_lt, nat_le, Bool, true, if◌then◌else◌, List, length, Option, Some, None, is_some, option_and_then}
use Rattle.serde_json.specs.Data.{Data, Items}
use Rattle.serde_json.specs.Events.{items_len}
use Rattle.serde_json.specs.Find.{as_array, as_bool, as_number, as_object, as_str, as_u64}

-- the value of a test, where it holds
abbrev pub if_so : {A : Type 0} → Bool → A → Option A
if_so test a = if test then Some a else None

-- a text that isn't empty
abbrev pub root_form : Option Data → Option (List ℕ)
root_form value = option_and_then (λ text. if_so (nat_lt 0 (length text)) text) (option_and_then as_str value)

-- true or false; true where it is missing
abbrev pub dedupe_form : Option Data → Option Bool
dedupe_form None = Some true
dedupe_form (Some d) = as_bool d

-- a whole number from 0 to 4,294,967,295; this one where it is missing
abbrev pub number_form : ℕ → Option Data → Option ℕ
number_form default None = Some default
number_form default (Some d) = option_and_then (λ n. if_so (nat_le n 4294967295) n) (option_and_then as_u64 (as_number d))

-- a text of 16 bytes
abbrev pub key_form : Option Data → Option (List ℕ)
key_form value = option_and_then (λ text. if_so (length text == 16) text) (option_and_then as_str value)

-- from 1 to 8
abbrev pub is_count : ℕ → Bool
is_count n = nat_le 1 n && nat_le n 8

-- a list of so many elements
abbrev pub counted : Items → Option Items
counted items = if_so (is_count (items_len items)) items

abbrev pub members_form : Option Data → Option Items
members_form value = option_and_then counted (option_and_then as_array value)

-- an object, which may be missing
abbrev pub is_object : Option Data → Bool
is_object None = true
is_object (Some d) = is_some (as_object d)

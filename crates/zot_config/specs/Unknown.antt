-- The fields that no configuration has.
use Rattle.std.specs.Prelude.{ℕ, Bool, if◌then◌else◌, List, [], ◌∷◌, ◌++◌, Option, Some, None, option_and_then, option_map, codes}
use Rattle.std.specs.Cmp.Lexicographic.{slice_cmp}
use Rattle.std.specs.List.{list_any}
use Rattle.std.specs.Ordering.{is_lt, nat_cmp}
use Rattle.std.specs.Str.{bytes_eq}
use Rattle.serde_json.specs.Data.{Data, Members, member, no_members}
use Rattle.serde_json.specs.Find.{as_object}
use Rattle.zot_config.specs.declared.field.Field.{Field}
use Rattle.zot_config.specs.declared.field.Field.TheVariants as fields
use Rattle.zot_config.specs.declared.wrong.Wrong.{Wrong}
use Rattle.zot_config.specs.Found.{found}
use Rattle.zot_config.specs.Object.{Object}
use Rattle.zot_config.specs.Fields.{name_of}

-- whether a field of this list has the name
abbrev pub is_known : List Field → List ℕ → Bool
is_known known name = list_any (λ field. bytes_eq name (name_of field)) known

-- the first unknown field of an object, whose fields stand in byte order of their names
abbrev pub first_unknown : List Field → Members → Option (List ℕ × Data)
first_unknown known no_members = None
first_unknown known (member name d rest) = if is_known known name then first_unknown known rest else Some (name, d)

-- the same as a wrong field, after the path of the object
abbrev pub unknown_in : List ℕ → List Field → Option Data → Option Wrong
unknown_in path known object =
    option_map (λ m. record { field = path ++ m.0; found = found (Some m.1) }) (option_and_then (first_unknown known) (option_and_then as_object object))

-- the one of the lesser path
abbrev pub lesser : Wrong → Option Wrong → Wrong
lesser one None = one
lesser one (Some other) = if is_lt (slice_cmp nat_cmp other.field one.field) then other else one

abbrev pub least : Option Wrong → Option Wrong → Option Wrong
least None other = other
least (Some one) other = Some (lesser one other)

-- the unknown field of the least path, in the three objects that there are
abbrev pub unknown : Object → Object → Object → Option Wrong
unknown whole storage cluster =
    least (unknown_in [] (fields.Storage ∷ fields.Cluster ∷ fields.Rounds ∷ []) whole.value)
    (least (unknown_in (codes "storage.") (fields.Root ∷ fields.Dedupe ∷ fields.GcDelay ∷ []) storage.value)
    (unknown_in (codes "cluster.") (fields.Members ∷ fields.HashKey ∷ []) cluster.value))

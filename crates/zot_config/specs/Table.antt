-- The configuration that a text stands for, field by field in the order in which they are checked.
use Rattle.std.specs.Prelude.{◌≡◌, ◌⊎◌, ℕ, ◌&&◌, not, if◌then◌else◌, List, [], ◌∷◌, ◌++◌, length, Option, Some, ok_or, option_and_then, Ok, Err, IsUtf8, codes, decimal}
use Rattle.std.specs.List.{list_any}
use Rattle.std.specs.Str.{bytes_eq}
use Rattle.json.specs.Json as json
use Rattle.json.specs.Find as text
use Rattle.serde_json.specs.Data.{Data, Items, item, no_items}
use Rattle.serde_json.specs.Find.{as_str}
use Rattle.serde_json.specs.Read as serde
use Rattle.zot_config.specs.declared.cluster.Cluster.{Cluster}
use Rattle.zot_config.specs.declared.config_error.ConfigError.{ConfigError}
use Rattle.zot_config.specs.declared.field.Field.{Field}
use Rattle.zot_config.specs.declared.field.Field.TheVariants as fields
use Rattle.zot_config.specs.declared.storage.Storage.{Storage}
use Rattle.zot_config.specs.declared.wrong.Wrong.{Wrong}
use Rattle.zot_config.specs.Address.{is_address}
use Rattle.zot_config.specs.Forms.{dedupe_form, if_so, is_object, key_form, members_form, number_form, root_form}
use Rattle.zot_config.specs.Found.{found}
use Rattle.zot_config.specs.Object.{Object, read_field, single, wrong}
use Rattle.zot_config.specs.Fields.{name_of}
use Rattle.zot_config.specs.Settings.{Settings}
use Rattle.zot_config.specs.Unknown.{unknown}
use Rattle.zot_config.specs.Wrong.{IfTold, Read, after, unless}

-- an object in a field of another one; one without fields where it is missing
abbrev pub part : Field → Object → Read Object
part field whole =
    after (single field whole) (λ value. if is_object value then Ok (record { value = value; text = option_and_then (text.get (name_of field)) whole.text })
    else Err (wrong field value))

-- `storage`
abbrev pub storage_of : Object → Read Storage
storage_of object =
    after (read_field fields.Root root_form object) (λ root.
    after (read_field fields.Dedupe dedupe_form object) (λ dedupe.
    after (read_field fields.GcDelay (number_form 3600) object) (λ delay.
    Ok (record { root = root; dedupe = dedupe; delay = delay }))))

-- the path of a member in their list
unfoldable pub member_path : ℕ → List ℕ
member_path place = codes "cluster.members[" ++ (decimal place ++ codes "]")

-- an address that none of the earlier ones equals
abbrev pub new_address : List (List ℕ) → List ℕ → Option (List ℕ)
new_address earlier text = if_so (is_address text && not (list_any (bytes_eq text) earlier)) text

-- a member after the earlier ones
abbrev pub member_of : List (List ℕ) → Data → Read (List ℕ)
member_of earlier d = ok_or (option_and_then (new_address earlier) (as_str d)) (record { field = member_path (length earlier); found = found (Some d) })

-- the members, one by one
abbrev pub members_of : List (List ℕ) → Items → Read (List (List ℕ))
members_of earlier no_items = Ok earlier
members_of earlier (item d rest) = after (member_of earlier d) (λ address. members_of (earlier ++ address ∷ []) rest)

-- `cluster`
abbrev pub cluster_of : Object → Read Cluster
cluster_of object =
    after (read_field fields.Members members_form object) (λ items.
    after (members_of [] items) (λ members.
    after (read_field fields.HashKey key_form object) (λ key.
    Ok (record { members = members; key = key }))))

-- the settings of these parts
abbrev pub settings : Storage → Cluster → ℕ → Settings
settings storage cluster rounds =
    record { root = storage.root; dedupe = storage.dedupe; delay = storage.delay; members = cluster.members; key = cluster.key; rounds = rounds }

-- the whole object; unknown fields come last
abbrev pub settings_of : Object → Read Settings
settings_of whole =
    after (part fields.Storage whole) (λ storage.
    after (storage_of storage) (λ s.
    after (part fields.Cluster whole) (λ cluster.
    after (cluster_of cluster) (λ c.
    after (read_field fields.Rounds (number_form 0) whole) (λ rounds.
    unless (unknown whole storage cluster) (settings s c rounds))))))

-- the whole text, which has to be an object
abbrev pub document_of : Data → json.Json → Read Settings
document_of d j = if is_object (Some d) then settings_of (record { value = Some d; text = Some j }) else Err (record { field = codes "."; found = found (Some d) })

-- the bytes are a text that `serde_json` reads as this value
pub record IsJson (bytes : List ℕ) (d : Data) : Type 0 where
  pub utf8 : IsUtf8 bytes
  pub read_as : serde.read bytes ≡ Some d

unfoldable pub not_json : Wrong
not_json = record { field = codes "."; found = codes "not JSON" }

-- what the bytes stand for, where they are JSON, with the tree of their text, and where they aren't
abbrev pub IsRead : List ℕ → Read Settings → Type 0
IsRead bytes read =
    ((d : Data) × (j : json.Json) × IsJson bytes d × (json.document bytes ≡ Some j) × (document_of d j ≡ read))
    ⊎ (((d : Data) → ¬ IsJson bytes d) × (read ≡ Err not_json))

-- the error is what the bytes give
abbrev pub Declines : List ℕ → ConfigError → Type 0
Declines bytes e = IfTold {A = Settings} (Err e) (IsRead bytes)

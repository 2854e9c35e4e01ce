-- The names of the fields, and their paths.
use Rattle.std.specs.Prelude.{ℕ, List, codes}
use Rattle.zot_config.specs.declared.field.Field.{Field}
use Rattle.zot_config.specs.declared.field.Field.TheVariants as fields

-- the name of a field in its object
unfoldable pub name_of : Field → List ℕ
name_of fields.Storage = codes "storage"
name_of fields.Root = codes "root"
name_of fields.Dedupe = codes "dedupe"
name_of fields.GcDelay = codes "gcDelay"
name_of fields.Cluster = codes "cluster"
name_of fields.Members = codes "members"
name_of fields.HashKey = codes "hashKey"
name_of fields.Rounds = codes "rounds"

-- its whole path
unfoldable pub path_of : Field → List ℕ
path_of fields.Storage = codes "storage"
path_of fields.Root = codes "storage.root"
path_of fields.Dedupe = codes "storage.dedupe"
path_of fields.GcDelay = codes "storage.gcDelay"
path_of fields.Cluster = codes "cluster"
path_of fields.Members = codes "cluster.members"
path_of fields.HashKey = codes "cluster.hashKey"
path_of fields.Rounds = codes "rounds"

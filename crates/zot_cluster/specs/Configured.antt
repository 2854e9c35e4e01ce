-- The configuration of the rows that a cluster's configuration gives.
use Rattle.std.specs.Prelude.{◌≡◌, length}
use Rattle.zot_config.specs.Settings.{Settings}
use Rattle.zot_repo.specs.declared.row_config.RowConfig.{RowConfig}

-- so many members, and this key
abbrev pub row_config : Settings → RowConfig
row_config settings = record { members = length settings.members; key = settings.key }

-- these rows are configured so
abbrev pub IsConfigured : Settings → RowConfig → Type 0
IsConfigured settings config = config ≡ row_config settings

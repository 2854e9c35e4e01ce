-- A cluster that is opened by its configuration.
use Rattle.std.proofs.Common.{◌≡◌, ℕ, Bool, List, length, subst}
use Rattle.zot_config.specs.Settings.{Settings}
use Rattle.zot_outside.specs.declared.stores.store.Store.{Ghosts}
use Rattle.zot_repo.specs.declared.row_config.RowConfig.{RowConfig}
use Rattle.zot_rows.specs.declared.rows.Rows.{Rows}
use Rattle.zot_cluster.specs.Configured.{row_config}
use Rattle.zot_cluster.specs.Opening.{IsOpened}

-- rows that are opened by what was read of a configuration are opened by it
pub opened_by : {S : Type 0} {G : Ghosts S} (settings : Settings) (members : ℕ) (key : List ℕ) (dedupe : Bool) (moment : ℕ) (parts shards : List S) (rows : Rows S G) → members ≡ length settings.members → key ≡ settings.key → dedupe ≡ settings.dedupe
    → IsOpened (record { members = members; key = key }) dedupe moment parts shards rows → IsOpened (row_config settings) settings.dedupe moment parts shards rows
opened_by settings members key dedupe moment parts shards rows members_are key_is dedupe_is h =
    subst (λ (c : RowConfig). IsOpened c settings.dedupe moment parts shards rows) (λ i. record { members = members_are i; key = key_is i })
    (subst (λ (d : Bool). IsOpened (record { members = members; key = key }) d moment parts shards rows) dedupe_is h)

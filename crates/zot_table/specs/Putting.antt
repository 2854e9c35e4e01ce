-- A manifest that was put into a repository's table, and may be taken back.
use Rattle.std.specs.Prelude.{◌≡◌, ℕ, Bool, List, Option, Some, None}
use Rattle.std.specs.FinMap as finite
use Rattle.zot_manifests.specs.Replacing.{Replaces}
use Rattle.zot_manifests.specs.declared.checked.Checked.{Checked}
use Rattle.zot_table.specs.Changes.{with_checked}
use Rattle.zot_table.specs.Tables.{AreTagged, RepoTable, Slots, entry_at, is_unread}
use Rattle.zot_table.specs.declared.before.Before.{Before}
use Rattle.zot_table.specs.declared.blob_entry.BlobEntry.{BlobEntry}

-- what is kept of a blob says whether its bytes are to be read
abbrev pub marked_by : Bool → Slots → List ℕ → Option (Option BlobEntry) → Slots
marked_by unread slots digest None = slots
marked_by unread slots digest (Some None) = slots
marked_by unread slots digest (Some (Some entry)) = finite.insert slots digest (Some (record { size = entry.size; arrived = entry.arrived; unread = unread }))

-- the new table is the old one with a manifest that was checked, and this is what there was before
pub record WasPut (before : Before) (old new : RepoTable) : Type 0 where
  pub moment : ℕ
  pub checked : Checked
  pub is : new ≡ with_checked moment old checked
  pub replaces : Replaces before.replaced old.table checked
  pub unread : before.unread ≡ is_unread (entry_at old.slots checked.digest)
  pub tagged : AreTagged old.table

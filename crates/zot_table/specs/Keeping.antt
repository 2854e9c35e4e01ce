-- What the parts of a repository's table keep.
use Rattle.std.specs.Prelude.{◌≡◌, ℕ, Bool, true, false, List}
use Rattle.std.specs.FinMap as finite
use Rattle.zot_digest.specs.ByteMap.{ByteMap}
use Rattle.zot_manifests.specs.Index.{Sets}
use Rattle.zot_manifests.specs.Table.{Table}
use Rattle.zot_manifests.specs.declared.kept.Kept.{Kept}
use Rattle.zot_referrers.specs.Listing.{ListsSubjects}
use Rattle.zot_table.specs.Tables.{AreTagged, Slots, entry_at, is_unread}

-- of no manifest the bytes may say something else than what is kept of it
abbrev pub NoneUnread : Slots → ByteMap Kept → Type 0
NoneUnread slots manifests = (digest : List ℕ) → finite.contains_key manifests digest ≡ true → is_unread (entry_at slots digest) ≡ false

-- each manifest is listed under its subject and none is left to be read, where this is said, and each tag is one of a manifest
pub record IsKept (slots : Slots) (table : Table) (sets : Sets (List ℕ)) (listed all_read : Bool) : Type 0 where
  pub subjects : listed ≡ true → ListsSubjects table.manifests sets
  pub tagged : AreTagged table
  pub read : all_read ≡ true → NoneUnread slots table.manifests

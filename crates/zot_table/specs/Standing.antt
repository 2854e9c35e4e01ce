-- The plain repository that a table stands for, beside the bytes that a pool of digests holds for it.
use Rattle.std.specs.Prelude.{◌≡◌, ◌≢◌, ◌⊎◌, ℕ, true, List, [], length, Option, Some, None, IsSomeAnd, unwrap_or, option_map}
use Rattle.std.specs.FinMap as finite
use Rattle.std.specs.List.{filter_map}
use Rattle.zot_digest.specs.ByteMap.{ByteMap, map_of}
use Rattle.zot_manifests.specs.Table.{plain_manifest, plain_manifests}
use Rattle.zot_manifests.specs.declared.kept.Kept.{Kept}
use Rattle.zot_model.specs.Manifests.{reading_by}
use Rattle.zot_model.specs.State.{RepoState, Stored}
use Rattle.zot_table.specs.Tables.{RepoTable, Slots, entry_at, is_unread}
use Rattle.zot_table.specs.declared.blob_entry.BlobEntry.{BlobEntry}

-- under each digest, the bytes that are held for the repository, or none
abbrev pub Holds : Type 0
Holds = List ℕ → Option (List ℕ)

-- ---- the plain repository

-- the blob that an entry stands for, with these bytes
abbrev pub stored_by : Option BlobEntry → Option (List ℕ) → Option Stored
stored_by None found = None
stored_by (Some entry) found = Some (record { bytes = unwrap_or found []; arrived = entry.arrived })

-- its blobs, by their digests
abbrev pub blobs_of : Slots → Holds → ByteMap Stored
blobs_of slots holds = map_of (filter_map (λ e. option_map (λ stored. (e.0, stored)) (stored_by e.1 (holds e.0))) (finite.entries slots))

abbrev pub repo_of : RepoTable → Holds → RepoState
repo_of repo holds = record { known = repo.known; blobs = blobs_of repo.slots holds; manifests = plain_manifests repo.table.manifests; tags = repo.table.tags; sessions = repo.sessions }

-- ---- what is held fits what is kept

-- bytes are held just where a blob is kept, and of its size
abbrev pub FitsEntry : Option BlobEntry → Option (List ℕ) → Type 0
FitsEntry None found = found ≡ None
FitsEntry (Some entry) found = IsSomeAnd found (λ bytes. length bytes ≡ entry.size)

-- the blob of these bytes, where they are held
abbrev pub as_stored : Option (List ℕ) → Option Stored
as_stored found = option_map (λ bytes. record { bytes = bytes; arrived = 0 }) found

-- what is kept of a manifest is what the bytes under its digest say, or it isn't known yet what they do
abbrev pub IsReadOf : Kept → Option BlobEntry → Option (List ℕ) → Type 0
IsReadOf kept entry found = (is_unread entry ≡ true) ⊎ (kept.reading ≡ reading_by (plain_manifest kept) (as_stored found))

-- what is held for the repository fits its table
pub record Agrees (repo : RepoTable) (holds : Holds) : Type 0 where
  pub fits : (digest : List ℕ) → FitsEntry (entry_at repo.slots digest) (holds digest)
  pub read : (digest : List ℕ) (kept : Kept) → finite.get repo.table.manifests digest ≡ Some kept → IsReadOf kept (entry_at repo.slots digest) (holds digest)

-- no manifest is left to be read
abbrev pub AllRead : RepoTable → Type 0
AllRead repo = (digest : List ℕ) (kept : Kept) → finite.get repo.table.manifests digest ≡ Some kept → (is_unread (entry_at repo.slots digest) ≡ true → ⊥)

-- the same is held but under one digest, where this is
pub record Sets (before : Holds) (digest : List ℕ) (found : Option (List ℕ)) (after : Holds) : Type 0 where
  pub here : after digest ≡ found
  pub others : (other : List ℕ) → other ≢ digest → after other ≡ before other

-- the same is held
abbrev pub AreEqual : Holds → Holds → Type 0
AreEqual before after = (digest : List ℕ) → after digest ≡ before digest

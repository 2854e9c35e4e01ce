-- The table of a repository that an index opens, and what is found to be held for it.
use Rattle.std.specs.Prelude.{◌≡◌, ℕ, true, List, [], ◌∷◌, map, Option, Some, None, option_map}
use Rattle.std.specs.FinMap as finite
use Rattle.zot_digest.specs.ByteMap.{ByteMap, map_of}
use Rattle.zot_layout.specs.Stands.{opened_tag}
use Rattle.zot_layout.specs.declared.index_manifest.IndexManifest.{IndexManifest}
use Rattle.zot_layout.specs.declared.index_state.IndexState.{IndexState}
use Rattle.zot_manifests.specs.declared.kept.Kept.{Kept}
use Rattle.zot_media.specs.Manifest.{empty_reading}
use Rattle.zot_model.specs.State.{RepoState, Stored}
use Rattle.zot_model.specs.Uploads.{no_uploads}
use Rattle.zot_table.specs.Changes.{known_as, with_entry}
use Rattle.zot_table.specs.Standing.{Holds}
use Rattle.zot_table.specs.Tables.{RepoTable, entry_at, fresh_table}
use Rattle.zot_table.specs.declared.blob_entry.BlobEntry.{BlobEntry}

-- a manifest under its digest, of which it isn't known yet what it says
abbrev pub opened_kept : IndexManifest → List ℕ × Kept
opened_kept manifest = (manifest.digest, record { media = manifest.media; arrived = manifest.arrived; reading = empty_reading })

-- a known repository with the manifests and tags of an index, and no blobs yet
abbrev pub opened_table : IndexState → RepoTable
opened_table index = record {
  known = true;
  slots = finite.empty;
  table = record { manifests = map_of (map opened_kept index.manifests); tags = map_of (map opened_tag index.tags) };
  sessions = no_uploads;
}

-- a map with these entries put in one after another
abbrev pub put_each : {X : Type 0} → ByteMap X → List (List ℕ × X) → ByteMap X
put_each map [] = map
put_each map (e ∷ es) = put_each (finite.insert map e.0 e.1) es

-- the table of a layout, which is a fresh one where the repository isn't known
abbrev pub opened_by : Option IndexState → RepoTable
opened_by None = fresh_table
opened_by (Some index) = opened_table index

-- ---- what is held

-- a blob of so many bytes is found at an opening, as one that arrived at the moment; the repository is known only where it was. What its bytes say isn't known where there is a manifest under its digest
abbrev pub with_found : ℕ → RepoTable → List ℕ → ℕ → RepoTable
with_found moment repo digest size = known_as repo.known (with_entry moment repo digest size)

-- what is kept of a blob that was found, if one was
abbrev pub found_entry : ℕ → ByteMap Kept → List ℕ → Option ℕ → Option BlobEntry
found_entry moment manifests digest size = option_map (λ n. record { size = n; arrived = moment; unread = finite.contains_key manifests digest }) size

-- blobs of these sizes were found for a table without a blob
pub record HasFound (moment : ℕ) (old : RepoTable) (sizes : List ℕ → Option ℕ) (new : RepoTable) : Type 0 where
  pub known : new.known ≡ old.known
  pub entries : (digest : List ℕ) → entry_at new.slots digest ≡ found_entry moment old.table.manifests digest (sizes digest)
  pub table : new.table ≡ old.table
  pub sessions : new.sessions ≡ old.sessions

-- ---- the plain repository

-- the blob of what is held, arrived at the moment
abbrev pub found_blob : ℕ → Option (List ℕ) → Option Stored
found_blob moment found = option_map (λ bytes. record { bytes = bytes; arrived = moment }) found

-- a repository of a layout, with the blobs that are held for it, each arrived at the moment
pub record IsOpenedWith (moment : ℕ) (repo : RepoState) (holds : Holds) (opened : RepoState) : Type 0 where
  pub known : opened.known ≡ repo.known
  pub blobs : (digest : List ℕ) → finite.get opened.blobs digest ≡ found_blob moment (holds digest)
  pub manifests : opened.manifests ≡ repo.manifests
  pub tags : opened.tags ≡ repo.tags
  pub sessions : opened.sessions ≡ repo.sessions

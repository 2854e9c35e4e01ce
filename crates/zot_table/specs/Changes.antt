-- What becomes of a repository's table.
use Rattle.std.specs.Prelude.{ℕ, Bool, true, false, List, Option, Some, None}
use Rattle.std.specs.FinMap as finite
use Rattle.zot_manifests.specs.Table.{Table, pulled, with_manifest, without_manifest, without_tag}
use Rattle.zot_manifests.specs.declared.checked.Checked.{Checked}
use Rattle.zot_media.specs.declared.reference.Reference.{Reference}
use Rattle.zot_media.specs.declared.reference.Reference.TheVariants as by
use Rattle.zot_model.specs.Uploads.{UploadTable}
use Rattle.zot_table.specs.Repository.{rereads}
use Rattle.zot_table.specs.Tables.{RepoTable, Slots}
use Rattle.zot_table.specs.declared.blob_entry.BlobEntry.{BlobEntry}

-- ---- its parts

abbrev pub with_slots : RepoTable → Slots → RepoTable
with_slots repo slots = record { known = repo.known; slots = slots; table = repo.table; sessions = repo.sessions }

abbrev pub with_table : RepoTable → Table → RepoTable
with_table repo table = record { known = repo.known; slots = repo.slots; table = table; sessions = repo.sessions }

abbrev pub with_uploads : RepoTable → UploadTable → RepoTable
with_uploads repo sessions = record { known = repo.known; slots = repo.slots; table = repo.table; sessions = sessions }

-- known, and forgotten again
abbrev pub known_as : Bool → RepoTable → RepoTable
known_as known repo = record { known = known; slots = repo.slots; table = repo.table; sessions = repo.sessions }

-- ---- blobs

-- room for a blob; what stands there stays
abbrev pub reserved_by : Slots → List ℕ → Option (Option BlobEntry) → Slots
reserved_by slots digest None = finite.insert slots digest None
reserved_by slots digest (Some slot) = slots

abbrev pub reserved : RepoTable → List ℕ → RepoTable
reserved repo digest = with_slots repo (reserved_by repo.slots digest (finite.get repo.slots digest))

-- room that no blob took goes
abbrev pub settled_by : Slots → List ℕ → Option (Option BlobEntry) → Slots
settled_by slots digest None = slots
settled_by slots digest (Some None) = finite.remove slots digest
settled_by slots digest (Some (Some entry)) = slots

abbrev pub settled : RepoTable → List ℕ → RepoTable
settled repo digest = with_slots repo (settled_by repo.slots digest (finite.get repo.slots digest))

-- a blob of so many bytes arrives at the moment, which makes the repository known. What its bytes say isn't known where there is a manifest under its digest
abbrev pub with_entry : ℕ → RepoTable → List ℕ → ℕ → RepoTable
with_entry moment repo digest size = record {
  known = true;
  slots = finite.insert repo.slots digest (Some (record { size = size; arrived = moment; unread = finite.contains_key repo.table.manifests digest }));
  table = repo.table;
  sessions = repo.sessions;
}

-- the blob goes
abbrev pub without_entry : RepoTable → List ℕ → RepoTable
without_entry repo digest = with_slots repo (finite.remove repo.slots digest)

-- ---- what manifests say

-- what the bytes of a blob say is known
abbrev pub read_by : Slots → List ℕ → Option (Option BlobEntry) → Slots
read_by slots digest None = slots
read_by slots digest (Some None) = slots
read_by slots digest (Some (Some entry)) = finite.insert slots digest (Some (record { size = entry.size; arrived = entry.arrived; unread = false }))

-- the bytes of a blob were read: the manifest under its digest, if there is one, says what they do
abbrev pub learned : RepoTable → List ℕ → List ℕ → RepoTable
learned repo digest bytes = record { known = repo.known; slots = read_by repo.slots digest (finite.get repo.slots digest); table = rereads repo.table digest bytes; sessions = repo.sessions }

-- ---- manifests and tags

-- a manifest that was checked, and whose bytes are a blob already, arrives at the moment
abbrev pub with_checked : ℕ → RepoTable → Checked → RepoTable
with_checked moment repo checked = record {
  known = repo.known;
  slots = read_by repo.slots checked.digest (finite.get repo.slots checked.digest);
  table = with_manifest moment repo.table checked.digest checked.tag checked.media checked.reading;
  sessions = repo.sessions;
}

-- the manifest or the tag that a reference names goes, a manifest with its tags
abbrev pub without_named : RepoTable → Reference → RepoTable
without_named repo (by.Tag tag) = with_table repo (without_tag repo.table tag)
without_named repo (by.Digest digest) = with_table repo (without_manifest repo.table digest)

-- the same, where one is given
abbrev pub left_by : RepoTable → Option Reference → RepoTable
left_by repo None = repo
left_by repo (Some reference) = without_named repo reference

-- a pull by a reference at the moment
abbrev pub with_pull_of : ℕ → RepoTable → Reference → RepoTable
with_pull_of moment repo reference = with_table repo (pulled moment repo.table reference)

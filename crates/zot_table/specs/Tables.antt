-- What a row keeps in memory of a repository: all but the bytes of its blobs.
use Rattle.std.specs.Prelude.{◌≡◌, ◌||◌, ℕ, Bool, true, false, List, map, Option, Some, None, option_map, unwrap_or, refl}
use Rattle.std.specs.Coded.{Coded, code_by, coded×, coded_bool, coded_option, coded_ℕ}
use Rattle.std.specs.FinMap as finite
use Rattle.std.specs.List.{filter}
use Rattle.zot_digest.specs.ByteMap.{ByteMap}
use Rattle.zot_layout.specs.declared.index_manifest.IndexManifest.{IndexManifest}
use Rattle.zot_layout.specs.declared.index_state.IndexState.{IndexState}
use Rattle.zot_layout.specs.declared.index_tag.IndexTag.{IndexTag}
use Rattle.zot_manifests.specs.Codes.{bytes_code, table_code}
use Rattle.zot_manifests.specs.Table.{Table, empty_table, found_by, is_referred}
use Rattle.zot_manifests.specs.declared.kept.Kept.{Kept}
use Rattle.zot_media.specs.declared.reference.Reference.{Reference}
use Rattle.zot_media.specs.declared.reference.Reference.TheVariants as by
use Rattle.zot_model.specs.State.{StoredTag}
use Rattle.zot_model.specs.Uploads.{UploadTable, no_uploads, table_code as uploads_code}
use Rattle.zot_table.specs.declared.blob_entry.BlobEntry.{BlobEntry}
use Rattle.zot_table.specs.declared.found_entry.FoundEntry.{FoundEntry}

-- ---- blobs

-- under a digest there is nothing, room for a blob, or what is kept of one
abbrev pub Slots : Type 0
Slots = ByteMap (Option BlobEntry)

-- what is kept of a blob, where there is one
abbrev pub filled : Option (Option BlobEntry) → Option BlobEntry
filled None = None
filled (Some slot) = slot

abbrev pub entry_at : Slots → List ℕ → Option BlobEntry
entry_at slots digest = filled (finite.get slots digest)

-- how many bytes the blob of a digest has, where there is one
abbrev pub size_at : Slots → List ℕ → Option ℕ
size_at slots digest = option_map (λ entry. entry.size) (entry_at slots digest)

-- whether the bytes of a blob may say something else than what is kept of the manifest under its digest
abbrev pub is_unread : Option BlobEntry → Bool
is_unread None = false
is_unread (Some entry) = entry.unread

abbrev pub entry_code : Coded BlobEntry
entry_code = code_by (ℕ × (ℕ × Bool)) (coded× coded_ℕ (coded× coded_ℕ coded_bool)) (λ e. (e.size, (e.arrived, e.unread))) (λ p. record { size = p.0; arrived = p.1.0; unread = p.1.1 }) (λ _. refl)

abbrev pub slots_code : Coded Slots
slots_code = finite.code bytes_code (coded_option entry_code)

-- ---- a repository

-- whether it is known, what is kept of its blobs, its manifests and tags, and its upload sessions
pub record RepoTable : Type 0 where
  pub known : Bool
  pub slots : Slots
  pub table : Table
  pub sessions : UploadTable

-- one that nobody has stored anything in
abbrev pub fresh_table : RepoTable
fresh_table = record { known = false; slots = finite.empty; table = empty_table; sessions = no_uploads }

abbrev pub repo_table_code : Coded RepoTable
repo_table_code = code_by (Bool × (Slots × (Table × UploadTable))) (coded× coded_bool (coded× slots_code (coded× table_code uploads_code)))
    (λ r. (r.known, (r.slots, (r.table, r.sessions)))) (λ p. record { known = p.0; slots = p.1.0; table = p.1.1.0; sessions = p.1.1.1 }) (λ _. refl)

-- each tag is one of a manifest that is there
abbrev pub AreTagged : Table → Type 0
AreTagged table = (tag : List ℕ) (stored : StoredTag) → finite.get table.tags tag ≡ Some stored → finite.contains_key table.manifests stored.digest ≡ true

-- ---- what is asked of it

-- the manifests whose bytes may say something else than what is kept of them, in the order of their digests
abbrev pub unread_in : RepoTable → List (List ℕ)
unread_in repo = filter (λ digest. is_unread (entry_at repo.slots digest)) (finite.keys repo.table.manifests)

-- whether a blob has to stay, by what is kept of the manifests: it is one, or some manifest refers to it
abbrev pub is_needed_in : RepoTable → List ℕ → Bool
is_needed_in repo digest = finite.contains_key repo.table.manifests digest || is_referred repo.table.manifests digest

-- the manifest of a digest, where it and its blob are there
abbrev pub found_with : List ℕ → Option Kept → Option ℕ → Option FoundEntry
found_with digest None size = None
found_with digest (Some kept) None = None
found_with digest (Some kept) (Some size) = Some (record { digest = digest; media = kept.media; size = size })

abbrev pub found_at : RepoTable → Option (List ℕ) → Option FoundEntry
found_at repo None = None
found_at repo (Some digest) = found_with digest (finite.get repo.table.manifests digest) (size_at repo.slots digest)

-- the manifest that a reference finds: its digest, its media, and how many bytes it has
abbrev pub found_in : RepoTable → Reference → Option FoundEntry
found_in repo reference = found_at repo (found_by repo.table reference)

-- whether there is a manifest or a tag that a reference names
abbrev pub has_named : RepoTable → Reference → Bool
has_named repo (by.Tag tag) = finite.contains_key repo.table.tags tag
has_named repo (by.Digest digest) = finite.contains_key repo.table.manifests digest

-- ---- its index

abbrev pub index_manifest : Slots → List ℕ × Kept → IndexManifest
index_manifest slots entry = record { digest = entry.0; media = entry.1.media; size = unwrap_or (size_at slots entry.0) 0; arrived = entry.1.arrived }

abbrev pub index_tag : List ℕ × StoredTag → IndexTag
index_tag entry = record { tag = entry.0; digest = entry.1.digest; pushed = entry.1.pushed }

-- what its index holds: the manifests in the order of their digests, and the tags in byte order
abbrev pub index_of : RepoTable → IndexState
index_of repo = record { manifests = map (index_manifest repo.slots) (finite.entries repo.table.manifests); tags = map index_tag (finite.entries repo.table.tags) }

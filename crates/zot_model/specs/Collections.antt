-- What collections and scrubs do to a repository of a plain registry: rules of this project.
use Rattle.std.specs.Prelude.{◌≡◌, ◌↔◌, ℕ, Bool, true, false, not, ◌&&◌, List, [], Option, Some, None, map}
use Rattle.std.specs.FinMap as finite
use Rattle.std.specs.List.{Contains, filter, list_any}
use Rattle.std.specs.List.Sorted.{IsStrictlySortedBy}
use Rattle.std.specs.Str.{bytes_eq}
use Rattle.zot_digest.specs.ByteMap.{ByteMap, byte_cmp}
use Rattle.zot_model.specs.Findings.{findings}
use Rattle.zot_model.specs.Manifests.{reading_at}
use Rattle.zot_model.specs.PlainBlobs.{without_blob}
use Rattle.zot_model.specs.Retire.{GoWhere, is_root}
use Rattle.zot_model.specs.State.{RepoState, RowState, Stored, StoredManifest, StoredTag, repo_at}
use Rattle.zot_model.specs.Sweep.{is_sweepable, swept}
use Rattle.zot_model.specs.Uploads.{Expires, UploadTable}
use Rattle.zot_model.specs.declared.finding.Finding.{Finding}
use Rattle.zot_model.specs.declared.manifest_row.ManifestRow.{ManifestRow}

-- ---- a repository as lists, each in the order of its keys

-- a manifest with what it says, by the bytes that the repository has of it
abbrev pub manifest_row : RepoState → List ℕ × StoredManifest → ManifestRow
manifest_row repo entry = record { digest = entry.0; media = entry.1.media; arrived = entry.1.arrived; reading = reading_at repo entry.0 entry.1 }

abbrev pub manifest_rows : RepoState → List ManifestRow
manifest_rows repo = map (manifest_row repo) (finite.entries repo.manifests)

-- the blobs with the moments at which they arrived, and with their bytes
abbrev pub blob_rows : RepoState → List (List ℕ × ℕ)
blob_rows repo = map (λ entry. (entry.0, entry.1.arrived)) (finite.entries repo.blobs)

abbrev pub contents : RepoState → List (List ℕ × List ℕ)
contents repo = map (λ entry. (entry.0, entry.1.bytes)) (finite.entries repo.blobs)

-- ---- retiring

-- what is kept: which of a repository's tags at a moment, each with what is stored of it; and whether the manifests are deleted that nothing holds
pub record Rules : Type 0 where
  pub keeps : ByteMap StoredTag → ℕ → List ℕ × StoredTag → Bool
  pub delete_untagged : Bool

-- whether a tag stays; without rules each does
abbrev pub stays_tagged : Option Rules → ByteMap StoredTag → ℕ → List ℕ × StoredTag → Bool
stays_tagged None tags moment tag = true
stays_tagged (Some rules) tags moment tag = rules.keeps tags moment tag

-- whether a tag that stays is set to a digest
abbrev pub has_tag : Option Rules → ByteMap StoredTag → ℕ → List ℕ → Bool
has_tag rules tags moment digest = list_any (λ tag. stays_tagged rules tags moment tag && bytes_eq tag.1.digest digest) (finite.entries tags)

-- whether the rules delete untagged manifests
abbrev pub deletes_untagged : Option Rules → Bool
deletes_untagged None = false
deletes_untagged (Some rules) = rules.delete_untagged

-- the tags and the manifests that went, in their order
pub record Gone : Type 0 where
  pub tags : List (List ℕ)
  pub manifests : List (List ℕ)

-- a map without these keys
abbrev pub without_keys : {X : Type 0} → ByteMap X → List (List ℕ) → ByteMap X
without_keys old gone = finite.retain_keys old (λ key. not (list_any (λ other. bytes_eq other key) gone))

-- the repository without what went, and with these upload sessions
abbrev pub without_gone : RepoState → Gone → UploadTable → RepoState
without_gone repo gone sessions = record {
  known = repo.known;
  blobs = repo.blobs;
  manifests = without_keys repo.manifests gone.manifests;
  tags = without_keys repo.tags gone.tags;
  sessions = sessions;
}

-- the tags go that the rules don't keep, the manifests that are outside the least set of those that stay, and the uploads that are as old as the delay; blobs stay
pub record Retires (moment : ℕ) (rules : Option Rules) (delay : ℕ) (gone : Gone) (old new : RepoState) : Type 0 where
  pub tags : gone.tags ≡ map (λ tag. tag.0) (filter (λ tag. not (stays_tagged rules old.tags moment tag)) (finite.entries old.tags))
  pub manifests : GoWhere (deletes_untagged rules) (is_root (has_tag rules old.tags moment) moment delay) (manifest_rows old) gone.manifests
  pub sessions : Expires moment delay old.sessions new.sessions
  pub left : new ≡ without_gone old gone new.sessions

-- ---- sweeping

-- a blob goes that may be removed
pub record Sweeps (moment delay : ℕ) (digest : List ℕ) (old new : RepoState) : Type 0 where
  pub stored : Stored
  pub here : finite.get old.blobs digest ≡ Some stored
  pub may : is_sweepable (manifest_rows old) moment delay (digest, stored.arrived) ≡ true
  pub left : new ≡ without_blob old digest

-- no blob is left that may be removed
pub record IsSwept (moment delay : ℕ) (old new : RepoState) : Type 0 where
  pub none : swept (manifest_rows old) (blob_rows old) moment delay ≡ []
  pub stays : new ≡ old

-- ---- looking

-- the names of the repositories that are known, in byte order
pub record AreKnown (row : RowState) (names : List (List ℕ)) : Type 0 where
  pub ordered : IsStrictlySortedBy byte_cmp names
  pub all : (name : List ℕ) → Contains names name ↔ ((repo_at row name).known ≡ true)

-- a scrub looked at so many blobs and found this
pub record Finds (blobs : ℕ) (found : List Finding) (old new : RepoState) : Type 0 where
  pub found_is : found ≡ findings (contents old) (manifest_rows old)
  pub blobs_is : blobs ≡ finite.len old.blobs
  pub stays : new ≡ old

-- The state of a plain registry: its repositories and what each holds.
use Rattle.std.specs.Prelude.{◌≡◌, ◌≢◌, ℕ, Bool, true, false, List, unwrap_or, refl}
use Rattle.std.specs.Coded.{Coded, code_by, coded×, coded_bool, coded_list, coded_ℕ}
use Rattle.std.specs.FinMap as map
use Rattle.zot_digest.specs.ByteMap.{ByteMap}
use Rattle.zot_media.specs.declared.media.Media.{Media}
use Rattle.zot_media.specs.declared.media.Media.TheVariants.{DockerImage, DockerList, Image, Index}
use Rattle.zot_model.specs.Uploads.{UploadTable, no_uploads, table_code}

-- a blob of a repository: its bytes, and the moment at which it arrived, in seconds
pub record Stored : Type 0 where
  pub bytes : List ℕ
  pub arrived : ℕ

-- a manifest of a repository: its media, and the moment at which it arrived, in seconds. Its bytes are those of the blob of its digest
pub record StoredManifest : Type 0 where
  pub media : Media
  pub arrived : ℕ

-- a tag of a repository: the digest of its manifest, the moment at which it was pushed, how often it was pulled, and the moment of the last pull, which is 0 before the first
pub record StoredTag : Type 0 where
  pub digest : List ℕ
  pub pushed : ℕ
  pub pulls : ℕ
  pub pulled : ℕ

-- a repository: whether it is known, its blobs and its manifests by their digests, its tags, and its upload sessions
pub record RepoState : Type 0 where
  pub known : Bool
  pub blobs : ByteMap Stored
  pub manifests : ByteMap StoredManifest
  pub tags : ByteMap StoredTag
  pub sessions : UploadTable

-- a row: its repositories by their names, and how many storage faults it had
pub record RowState : Type 0 where
  pub repos : ByteMap RepoState
  pub faults : ℕ

-- a repository that nobody has stored anything in
abbrev pub fresh : RepoState
fresh = record { known = false; blobs = map.empty; manifests = map.empty; tags = map.empty; sessions = no_uploads }

-- the repository, known
abbrev pub made_known : RepoState → RepoState
made_known repo = record { known = true; blobs = repo.blobs; manifests = repo.manifests; tags = repo.tags; sessions = repo.sessions }

-- the repository of a name, which is a fresh one where the row has none
abbrev pub repo_at : RowState → List ℕ → RepoState
repo_at row name = unwrap_or (map.get row.repos name) fresh

-- the row with no repository
abbrev pub empty_row : RowState
empty_row = record { repos = map.empty; faults = 0 }

-- two rows have the same repository under each name: a fresh one may stand in a row or not
abbrev pub HaveSameRepos : RowState → RowState → Type 0
HaveSameRepos row other = (name : List ℕ) → repo_at other name ≡ repo_at row name

-- two rows are the same state
pub record AreSame (row other : RowState) : Type 0 where
  pub repos : HaveSameRepos row other
  pub faults : other.faults ≡ row.faults

-- the new row has this repository under the name, and every other name's repository as before
pub record Becomes (old : RowState) (name : List ℕ) (repo : RepoState) (new : RowState) : Type 0 where
  pub here : repo_at new name ≡ repo
  pub others : (other : List ℕ) → other ≢ name → repo_at new other ≡ repo_at old other

-- a stored blob is coded as its bytes and its moment
abbrev pub stored_code : Coded Stored
stored_code = code_by (List ℕ × ℕ) (coded× (coded_list coded_ℕ) coded_ℕ) (λ s. (s.bytes, s.arrived)) (λ p. record { bytes = p.0; arrived = p.1 }) (λ _. refl)

-- media are coded as two bits: whether they are Docker's, and whether they are those of a list of manifests
abbrev pub media_bits : Media → Bool × Bool
media_bits Image = (false, false)
media_bits Index = (false, true)
media_bits DockerImage = (true, false)
media_bits DockerList = (true, true)

abbrev pub media_of_bits : Bool → Bool → Media
media_of_bits false false = Image
media_of_bits false true = Index
media_of_bits true false = DockerImage
media_of_bits true true = DockerList

pub bits_of_media : (media : Media) → media_of_bits (media_bits media).0 (media_bits media).1 ≡ media
bits_of_media Image = refl
bits_of_media Index = refl
bits_of_media DockerImage = refl
bits_of_media DockerList = refl

abbrev pub media_code : Coded Media
media_code = code_by (Bool × Bool) (coded× coded_bool coded_bool) media_bits (λ p. media_of_bits p.0 p.1) bits_of_media

-- a manifest is coded as its media and its moment
abbrev pub manifest_code : Coded StoredManifest
manifest_code = code_by (Media × ℕ) (coded× media_code coded_ℕ) (λ m. (m.media, m.arrived)) (λ p. record { media = p.0; arrived = p.1 }) (λ _. refl)

-- a tag is coded as its digest and its three numbers
abbrev pub tag_code : Coded StoredTag
tag_code = code_by (List ℕ × (ℕ × (ℕ × ℕ))) (coded× (coded_list coded_ℕ) (coded× coded_ℕ (coded× coded_ℕ coded_ℕ)))
    (λ t. (t.digest, (t.pushed, (t.pulls, t.pulled)))) (λ p. record { digest = p.0; pushed = p.1.0; pulls = p.1.1.0; pulled = p.1.1.1 }) (λ _. refl)

-- a repository is coded as its five parts
abbrev pub repo_code : Coded RepoState
repo_code = code_by (Bool × (ByteMap Stored × (ByteMap StoredManifest × (ByteMap StoredTag × UploadTable))))
    (coded× coded_bool (coded× (map.code (coded_list coded_ℕ) stored_code) (coded× (map.code (coded_list coded_ℕ) manifest_code) (coded× (map.code (coded_list coded_ℕ) tag_code) table_code))))
    (λ r. (r.known, (r.blobs, (r.manifests, (r.tags, r.sessions))))) (λ p. record { known = p.0; blobs = p.1.0; manifests = p.1.1.0; tags = p.1.1.1.0; sessions = p.1.1.1.1 }) (λ _. refl)

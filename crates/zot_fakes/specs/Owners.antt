-- Who owns a path of a cluster's storage: a row has the markers and the indexes of its repositories, a shard the files of its digests.
use Rattle.std.specs.Prelude.{◌≡◌, ◌≢◌, ◌⊎◌, ℕ, ◌%◌, List, ◌++◌, length, slice_index, Option, Some, None, codes, IsAscii, ⊤}
use Rattle.hex.specs.Hex.{encode_lower}
use Rattle.std.specs.FinMap as map
use Rattle.zot_digest.specs.Digest.{IsDigest}
use Rattle.zot_fakes.specs.declared.owners.Part.{Part}
use Rattle.zot_fakes.specs.declared.owners.Part.TheVariants as parts
use Rattle.zot_names.specs.Name.{IsName}
use Rattle.zot_outside.specs.Objects.{Objects}
use Rattle.zot_siphash.specs.Owners.{AreMembers, row}
use Rattle.zot_siphash.specs.SipHash.{siphash}

-- the path of a repository's marker, and that of its index
unfoldable pub marker_path : List ℕ → List ℕ
marker_path name = name ++ codes "/oci-layout"

unfoldable pub index_path : List ℕ → List ℕ
index_path name = name ++ codes "/index.json"

-- one of these, of the repository of this name
pub record IsOfRepository (name path : List ℕ) : Type 0 where
  pub is_name : IsName name
  pub spelled : (path ≡ marker_path name) ⊎ (path ≡ index_path name)

-- the row owns the path: it is the marker or the index of a repository of this row
pub record RowOwns (key : List ℕ) (members number : ℕ) (path : List ℕ) : Type 0 where
  pub name : List ℕ
  pub repository : IsOfRepository name path
  pub row_is : row (siphash key name) members ≡ number

-- the folder of the blobs of a repository
abbrev pub IsFolderOfBlobs : List ℕ → Type 0
IsFolderOfBlobs folder = (name : List ℕ) × IsName name × (folder ≡ name ++ codes "/blobs/sha256/")

-- the folder of the records, or that of the blobs that landed
abbrev pub IsFolderOfCluster : List ℕ → Type 0
IsFolderOfCluster folder = (folder ≡ codes "_cache/sha256/") ⊎ (folder ≡ codes "_landed/sha256/")

-- a folder whose files have the names of digests: one of these, or that of a repository's blobs
abbrev pub IsFolderOfDigests : List ℕ → Type 0
IsFolderOfDigests folder = IsFolderOfCluster folder ⊎ IsFolderOfBlobs folder

-- the digits of a digest of the shard: its first byte is the shard's number modulo 16
pub record AreDigitsOf (shard : ℕ) (digits : List ℕ) : Type 0 where
  pub digest : List ℕ
  pub is_digest : IsDigest digest
  pub spelled : digits ≡ encode_lower digest
  pub shard_is : slice_index digest 0 % 16 ≡ shard

-- the shard owns the path: it is a file of one of its digests
pub record ShardOwns (shard : ℕ) (path : List ℕ) : Type 0 where
  pub folder : List ℕ
  pub digits : List ℕ
  pub of_digests : IsFolderOfDigests folder
  pub of_shard : AreDigitsOf shard digits
  pub spelled : path ≡ folder ++ digits

-- the part owns the path
abbrev pub Owns : Part → List ℕ → Type 0
Owns (parts.Row key members number) path = RowOwns key members number path
Owns (parts.Shard shard) path = ShardOwns shard path

-- the part is one of a cluster of 1 to 8 members
abbrev pub HasMembers : Part → Type 0
HasMembers (parts.Row key members number) = AreMembers members
HasMembers (parts.Shard shard) = ⊤

-- a path was cut where 64 bytes are left behind, or can't be cut there
abbrev pub IsCut : List ℕ → Option (List ℕ × List ℕ) → Type 0
IsCut path None = (folder digits : List ℕ) → length digits ≡ 64 → IsAscii digits → path ≢ folder ++ digits
IsCut path (Some cut) = (path ≡ cut.0 ++ cut.1) × (length cut.1 ≡ 64)

-- of these objects, the part has just those whose path it owns
pub record HasItsOwn (part : Part) (all own : Objects) : Type 0 where
  pub owned : (path : List ℕ) → Owns part path → map.get own path ≡ map.get all path
  pub others : (path : List ℕ) → ¬ Owns part path → map.get own path ≡ None

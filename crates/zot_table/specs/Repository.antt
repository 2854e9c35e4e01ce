-- What stands for the plain repository.
use Rattle.std.specs.Prelude.{◌≡◌, ℕ, Bool, List, length, Option, Some, None, option_map}
use Rattle.std.specs.FinMap as map
use Rattle.sha2.specs.Sha256.{sha256}
use Rattle.zot_digest.specs.ByteMap.{ByteMap}
use Rattle.zot_manifests.specs.Table.{Table, plain_manifests}
use Rattle.zot_manifests.specs.declared.checked.Checked.{Checked}
use Rattle.zot_manifests.specs.declared.kept.Kept.{Kept}
use Rattle.zot_media.specs.Manifest.{reading, stored_reading}
use Rattle.zot_model.specs.State.{RepoState, Stored}
use Rattle.zot_model.specs.Uploads.{UploadTable}

-- the repository that these stand for: whether it is known, its blobs, the table of its manifests and tags, and its upload sessions
abbrev pub plain_of : Bool → ByteMap Stored → Table → UploadTable → RepoState
plain_of known blobs table sessions = record { known = known; blobs = blobs; manifests = plain_manifests table.manifests; tags = table.tags; sessions = sessions }

-- how many bytes the blob of a digest has, where there is one
abbrev pub size_of : ByteMap Stored → List ℕ → Option ℕ
size_of blobs digest = option_map (λ stored. length stored.bytes) (map.get blobs digest)

-- ---- what manifests say

-- a manifest with what these bytes say
abbrev pub read_again : Kept → List ℕ → Kept
read_again kept bytes = record { media = kept.media; arrived = kept.arrived; reading = stored_reading kept.media bytes }

-- the table in which the manifest found under a digest says what these bytes do
abbrev pub rereads_found : Table → List ℕ → List ℕ → Option Kept → Table
rereads_found table digest bytes None = table
rereads_found table digest bytes (Some kept) = record { manifests = map.insert table.manifests digest (read_again kept bytes); tags = table.tags }

abbrev pub rereads : Table → List ℕ → List ℕ → Table
rereads table digest bytes = rereads_found table digest bytes (map.get table.manifests digest)

-- a manifest that was checked is that of these bytes
pub record IsOf (checked : Checked) (body : List ℕ) : Type 0 where
  pub digest : checked.digest ≡ sha256 body
  pub read : reading checked.media body ≡ Some checked.reading

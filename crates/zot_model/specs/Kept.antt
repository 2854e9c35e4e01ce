-- What manifests need, through the steps of a history.
use Rattle.std.specs.Prelude.{◌≡◌, ℕ, List, Some, IsSome}
use Rattle.std.specs.FinMap as map
use Rattle.zot_media.specs.References.{needed}
use Rattle.zot_model.specs.Among.{IsAmong}
use Rattle.zot_model.specs.Manifests.{reading_at}
use Rattle.zot_model.specs.State.{RepoState, StoredManifest}

-- a blob that a manifest of the repository needs: its config, or a layer that isn't external
pub record IsNeededBy (repo : RepoState) (digest : List ℕ) (reference : List ℕ) : Type 0 where
  pub manifest : StoredManifest
  pub here : map.get repo.manifests digest ≡ Some manifest
  pub needs : IsAmong (needed (reading_at repo digest manifest)) reference

-- of each manifest that is kept, the blobs that it needs and that were there are there still
abbrev pub KeepsNeeded : RepoState → RepoState → Type 0
KeepsNeeded old new = (digest reference : List ℕ) → IsNeededBy old digest reference → IsSome (map.get new.manifests digest) → IsSome (map.get old.blobs reference) → IsSome (map.get new.blobs reference)

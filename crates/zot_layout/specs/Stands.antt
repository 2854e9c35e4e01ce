-- The state that a row's part stands for, repository by repository. Uploads, how many were opened, and pulls aren't stored; the blobs of a repository lie in other parts.
use Rattle.std.specs.Prelude.{◌≡◌, ℕ, true, if◌then◌else◌, List, [], ◌∷◌, map, Option, Some, None, Ok, option_map}
use Rattle.std.specs.FinMap as finite
use Rattle.std.specs.Str.{bytes_eq}
use Rattle.zot_digest.specs.ByteMap.{map_of}
use Rattle.zot_model.specs.State.{RepoState, RowState, StoredManifest, StoredTag, fresh, repo_at}
use Rattle.zot_model.specs.Uploads.{no_uploads}
use Rattle.zot_outside.specs.Objects.{Objects}
use Rattle.zot_layout.specs.Rows.{Opened, layout_of}
use Rattle.zot_layout.specs.declared.index_manifest.IndexManifest.{IndexManifest}
use Rattle.zot_layout.specs.declared.index_state.IndexState.{IndexState}
use Rattle.zot_layout.specs.declared.index_tag.IndexTag.{IndexTag}

-- ---- the state of a repository that an index opens

-- a manifest without its size, under its digest
abbrev pub opened_manifest : IndexManifest → List ℕ × StoredManifest
opened_manifest manifest = (manifest.digest, record { media = manifest.media; arrived = manifest.arrived })

-- a tag that nobody has pulled, under its text
abbrev pub opened_tag : IndexTag → List ℕ × StoredTag
opened_tag tag = (tag.tag, record { digest = tag.digest; pushed = tag.pushed; pulls = 0; pulled = 0 })

-- a known repository with what an index says
abbrev pub opened_repo : IndexState → RepoState
opened_repo index = record {
  known = true;
  blobs = finite.empty;
  manifests = map_of (map opened_manifest index.manifests);
  tags = map_of (map opened_tag index.tags);
  sessions = no_uploads;
}

-- the repository of a layout: a fresh one where it isn't known
abbrev pub repo_of : Option IndexState → RepoState
repo_of None = fresh
repo_of (Some index) = opened_repo index

-- the repository of a name among those that were opened
abbrev pub repo_among : List Opened → List ℕ → RepoState
repo_among [] name = fresh
repo_among (first ∷ others) name = if bytes_eq first.0 name then opened_repo first.1 else repo_among others name

-- ---- what is stored of it

-- a tag but for its pulls
abbrev pub without_pulls : StoredTag → List ℕ × ℕ
without_pulls tag = (tag.digest, tag.pushed)

-- two repositories are alike in what a row's part stores
pub record AreAlike (one other : RepoState) : Type 0 where
  pub known : other.known ≡ one.known
  pub manifests : other.manifests ≡ one.manifests
  pub tags : (tag : List ℕ) → option_map without_pulls (finite.get other.tags tag) ≡ option_map without_pulls (finite.get one.tags tag)

-- the objects stand for a repository under a name. The moment stands for those that its index doesn't say
pub record StandsFor (objects : Objects) (moment : ℕ) (name : List ℕ) (repo : RepoState) : Type 0 where
  pub found : Option IndexState
  pub holds : layout_of objects name moment ≡ Ok found
  pub alike : AreAlike (repo_of found) repo

-- the objects stand for a row
abbrev pub StandsForRow : Objects → ℕ → (List ℕ → Type 0) → RowState → Type 0
StandsForRow objects moment IsOwn row = (name : List ℕ) → IsOwn name → StandsFor objects moment name (repo_at row name)

-- What the parts of a cluster stand for: the rows' parts for what the repositories are, and the parts of the digests for the bytes of their blobs.
use Rattle.std.specs.Prelude.{◌≡◌, ◌<◌, ℕ, List, Option, IfSome, option_map}
use Rattle.std.specs.FinMap as finite
use Rattle.zot_repo.specs.RowGoing.{IsOwn}
use Rattle.zot_repo.specs.Rows.{under}
use Rattle.zot_repo.specs.declared.row_config.RowConfig.{RowConfig}
use Rattle.zot_digest.specs.Digest.{IsDigest}
use Rattle.zot_layout.specs.Stands.{StandsForRow}
use Rattle.zot_model.specs.State.{RepoState, repo_at}
use Rattle.zot_outside.specs.Objects.{Objects}
use Rattle.zot_pool.specs.Pools.{holds, part_at}
use Rattle.zot_rows.specs.Histories.{RowStates}
use Rattle.zot_rows.specs.Listing.{rows_of}

-- the blobs of a repository have the bytes that are held for it, and no other bytes are held for it
abbrev pub HasHeld : (List ℕ → Option (List ℕ)) → RepoState → Type 0
HasHeld held repo = (digest : List ℕ) → IsDigest digest → option_map (λ blob. blob.bytes) (finite.get repo.blobs digest) ≡ held digest

-- the parts stand for these rows, where they tell. This moment is meant where an index doesn't say one
pub record StandForRows (config : RowConfig) (moment : ℕ) (parts shards : List (Option Objects)) (rows : RowStates) : Type 0 where
  pub repositories : (number : ℕ) → number < rows_of config.members → IfSome (part_at parts number) (λ told. StandsForRow told moment (IsOwn config number) (rows number))
  pub blobs : IfSome (holds shards) (λ held. (number : ℕ) → number < rows_of config.members → (name : List ℕ) → IsOwn config number name → HasHeld (under held name) (repo_at (rows number) name))

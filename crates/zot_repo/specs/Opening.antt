-- What a row is when it is opened: what its part holds of its repositories, and what is held for them.
use Rattle.std.specs.Prelude.{◌≡◌, ℕ, List, [], ◌∷◌, length, Option, Some, Ok, IfSome, IsSome}
use Rattle.std.specs.FinMap as finite
use Rattle.std.specs.List.{All, Contains}
use Rattle.zot_contents.specs.Pool.{Holders}
use Rattle.zot_contents.specs.declared.holding.Holding.{Holding}
use Rattle.zot_digest.specs.Digest.{IsDigest}
use Rattle.zot_layout.specs.Rows.{AreIndexes, Opened, OpensRow, layout_of}
use Rattle.zot_layout.specs.Stands.{StandsFor, repo_among, repo_of as layout_repo}
use Rattle.zot_layout.specs.declared.index_state.IndexState.{IndexState}
use Rattle.zot_model.specs.State.{RepoState, RowState, repo_at}
use Rattle.zot_outside.specs.Objects.{Objects}
use Rattle.zot_table.specs.Opening.{IsOpenedWith, opened_table, with_found}
use Rattle.zot_table.specs.Standing.{Holds}
use Rattle.zot_repo.specs.Rows.{Tables, table_at, under}

-- ---- what is held

-- each holding's repository is one of these, and its digest is one
abbrev pub AreOwn : (List ℕ → Type 0) → List Holding → Type 0
AreOwn Own holdings = All (λ h. Own h.name × IsDigest h.digest) holdings

-- what a holding says is so: the repository holds so many bytes under the digest
pub record IsHeldBy (held : Holders) (holding : Holding) : Type 0 where
  pub bytes : List ℕ
  pub holds : held holding.digest holding.name ≡ Some bytes
  pub size : holding.size ≡ length bytes

-- a repository's holding under a digest is listed
pub record IsListed (holdings : List Holding) (digest name : List ℕ) : Type 0 where
  pub holding : Holding
  pub has : Contains holdings holding
  pub digest_is : holding.digest ≡ digest
  pub name_is : holding.name ≡ name

-- the holdings are all that is held for these repositories
pub record AreAllOf (Own : List ℕ → Type 0) (held : Holders) (holdings : List Holding) : Type 0 where
  pub listed : All (IsHeldBy held) holdings
  pub all : (digest name : List ℕ) → IsDigest digest → Own name → IsSome (held digest name) → IsListed holdings digest name

-- ---- the tables

-- with the tables of repositories that were opened, one after another
abbrev pub with_opened : Tables → List Opened → Tables
with_opened tables [] = tables
with_opened tables (first ∷ others) = with_opened (finite.insert tables first.0 (opened_table first.1)) others

-- with a holding, as a blob that arrived at the moment
abbrev pub with_holding : ℕ → Tables → Holding → Tables
with_holding moment tables holding = finite.insert tables holding.name (with_found moment (table_at tables holding.name) holding.digest holding.size)

-- with holdings, one after another
abbrev pub with_holdings : ℕ → Tables → List Holding → Tables
with_holdings moment tables [] = tables
with_holdings moment tables (first ∷ others) = with_holdings moment (with_holding moment tables first) others

-- the tables are of what a part holds of the row, with these holdings
pub record AreOpened (objects : Option Objects) (Own : List ℕ → Type 0) (moment : ℕ) (holdings : List Holding) (tables : Tables) : Type 0 where
  pub opened : List Opened
  pub indexes : AreIndexes Own opened
  pub opens : IfSome objects (λ told. OpensRow told Own moment (Ok opened))
  pub stands : IfSome objects (λ told. (name : List ℕ) → Own name → StandsFor told moment name (repo_among opened name))
  pub is : tables ≡ with_holdings moment (with_opened finite.empty opened) holdings

-- ---- the plain row

-- the repository is what the objects hold under the name, with the blobs that are held for it, each arrived at the moment
pub record IsOpenedRepo (objects : Objects) (moment : ℕ) (name : List ℕ) (holds : Holds) (repo : RepoState) : Type 0 where
  pub found : Option IndexState
  pub says : layout_of objects name moment ≡ Ok found
  pub is : IsOpenedWith moment (layout_repo found) holds repo

-- so is each of the row's own repositories
abbrev pub IsOpenedRow : Objects → ℕ → (List ℕ → Type 0) → Holders → RowState → Type 0
IsOpenedRow objects moment Own held row = (name : List ℕ) → Own name → IsOpenedRepo objects moment name (under held name) (repo_at row name)

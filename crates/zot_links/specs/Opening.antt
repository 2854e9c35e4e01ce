-- What the objects of a digest stand for, found when a store is opened.
use Rattle.std.specs.Prelude.{◌≡◌, ◌↔◌, ℕ, ◌≤◌, ⊤, List, Option, Some, None, IsSome, Result, Ok, Err}
use Rattle.std.specs.FinMap as map
use Rattle.zot_names.specs.Name.{IsName}
use Rattle.zot_outside.specs.Faults.{Rose}
use Rattle.zot_outside.specs.Objects.{Objects}
use Rattle.zot_links.specs.Meaning.{HasMeaning, IsLink, Links, object_at, origin_of, record_path}
use Rattle.zot_links.specs.declared.links_error.LinksError.{LinksError}
use Rattle.zot_links.specs.declared.links_error.LinksError.TheVariants as errors

-- the repositories that have an object under a digest are these
abbrev pub HasObjects : Objects → List ℕ → Links → Type 0
HasObjects objects digest found = (name : List ℕ) → IsName name → IsSome (object_at objects digest name) ↔ IsSome (map.get found name)

-- the digest's record has this text, and its objects have no meaning
pub record LacksMeaning (objects : Objects) (digest text : List ℕ) : Type 0 where
  pub there : map.get objects (record_path digest) ≡ Some text
  pub none : ¬ HasMeaning objects digest

-- ---- why nothing was opened

-- a fact for a call whose store failed
abbrev pub OnLinksFailed : {A : Type 0} → Result A LinksError → Type 0 → Type 0
OnLinksFailed (Ok links) P = ⊤
OnLinksFailed (Err (errors.Bad text)) P = ⊤
OnLinksFailed (Err errors.Failed) P = P
OnLinksFailed (Err errors.NoMemory) P = ⊤

-- a fact for every other answer
abbrev pub UnlessLinksFailed : {A : Type 0} → Result A LinksError → Type 0 → Type 0
UnlessLinksFailed (Ok links) P = P
UnlessLinksFailed (Err (errors.Bad text)) P = P
UnlessLinksFailed (Err errors.Failed) P = ⊤
UnlessLinksFailed (Err errors.NoMemory) P = P

-- a fact of the text of a record that is refused
abbrev pub OnBad : {A : Type 0} → Result A LinksError → (List ℕ → Type 0) → Type 0
OnBad (Ok links) P = ⊤
OnBad (Err (errors.Bad text)) P = P text.items
OnBad (Err errors.Failed) P = ⊤
OnBad (Err errors.NoMemory) P = ⊤

-- the store's count of faults never falls, rose where the answer is that it failed, and stays where it isn't
pub record HasLinksCause {A : Type 0} (before after : ℕ) (result : Result A LinksError) : Type 0 where
  pub later : before ≤ after
  pub failed : OnLinksFailed result (Rose before after)
  pub kept : UnlessLinksFailed result (after ≡ before)

-- ---- what the lines of a record make of the repositories with objects

-- a line for each of some repositories, if it has one
abbrev pub Line : Type 0
Line = List ℕ → Option (Option (List ℕ))

-- these lines make of the repositories that were found these holders
pub record Opens (line : Line) (found links : Links) : Type 0 where
  pub names : (name : List ℕ) → IsSome (map.get links name) ↔ IsSome (map.get found name)
  pub named : (name : List ℕ) → IsSome (map.get links name) → IsName name
  pub origins : (name : List ℕ) → IsSome (map.get links name) → map.get links name ≡ Some (origin_of (line name))
  pub whole : (name origin : List ℕ) → IsLink links name origin → IsSome (map.get found origin) × (line origin ≡ Some None)

-- the line of a repository names an origin that wasn't found, or isn't whole
pub record Dangles (line : Line) (found : Links) (name : List ℕ) : Type 0 where
  pub origin : List ℕ
  pub names : line name ≡ Some (Some origin)
  pub lacks : ¬ (IsSome (map.get found origin) × (line origin ≡ Some None))

-- that of one that was found
pub record Strays (line : Line) (found : Links) : Type 0 where
  pub name : List ℕ
  pub there : IsSome (map.get found name)
  pub dangles : Dangles line found name

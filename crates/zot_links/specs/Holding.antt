-- How a repository comes to hold bytes.
use Rattle.std.specs.Prelude.{◌≡◌, ◌≢◌, ℕ, Bool, List, Option, Some, None, is_some, option_map, unwrap_or, ⊤}
use Rattle.zot_outside.specs.Objects.{Objects}
use Rattle.zot_links.specs.Changes.{Keeps, Sets}
use Rattle.zot_links.specs.Meaning.{IsFree, IsFresh, IsLink, IsWhole, Links, Stands, held, object_at}
use Rattle.zot_links.specs.declared.form.Form.{Form}
use Rattle.zot_links.specs.declared.form.Form.TheVariants as forms

-- what a repository is, by its entry among the holders
abbrev pub form_in : Option (List ℕ) → Form
form_in None = forms.Whole
form_in (Some origin) = forms.Link

abbrev pub form_of : Option (Option (List ℕ)) → Form
form_of None = forms.Absent
form_of (Some origin) = form_in origin

-- the repository whose object one stands for, by its entry: its link's origin, or itself
abbrev pub source_of : List ℕ → Option (Option (List ℕ)) → Option (List ℕ)
source_of name holder = option_map (λ origin. unwrap_or origin name) holder

-- a link to any repository
abbrev pub IsLinked : Links → List ℕ → Type 0
IsLinked links name = (origin : List ℕ) × IsLink links name origin

-- no link needs it, if it is whole
abbrev pub MayChange : Links → List ℕ → Type 0
MayChange links name = IsWhole links name → IsFree links name

-- the others that are whole are so still, with their objects, and what was fresh is
pub record Spares (old : Objects) (digest : List ℕ) (links : Links) (name : List ℕ) (new : Objects) (later : Links) : Type 0 where
  pub whole : (other : List ℕ) → IsWhole links other → other ≢ name → IsWhole later other × (object_at new digest other ≡ object_at old digest other)
  pub fresh : (bytes : List ℕ) → IsFresh old digest links bytes → IsFresh new digest later bytes

-- nothing is held otherwise, and no link needs the repository's object any more
pub record Prepares (old : Objects) (digest : List ℕ) (links : Links) (name : List ℕ) (new : Objects) (later : Links) : Type 0 where
  pub kept : Keeps old digest links new later
  pub spares : Spares old digest links name new later
  pub free : MayChange later name

-- it holds these bytes now, by an object of its own
abbrev pub GetsBytes : List ℕ → Links → List ℕ → List ℕ → Links → Objects → Objects → Type 0
GetsBytes digest links name bytes later old new = Stands old digest links → MayChange links name → Sets (IsFresh old digest links bytes) old digest links name (Some bytes) new later

-- another repository is whole and has these bytes
pub record HasOrigin (objects : Objects) (digest : List ℕ) (links : Links) (name origin bytes : List ℕ) : Type 0 where
  pub whole : IsWhole links origin
  pub has : object_at objects digest origin ≡ Some bytes
  pub other : origin ≢ name

-- it holds its origin's bytes now, by a link
abbrev pub GetsLink : List ℕ → Links → List ℕ → List ℕ → Links → Objects → Objects → Type 0
GetsLink digest links name origin later old new =
    (bytes : List ℕ) → Stands old digest links → MayChange links name → HasOrigin old digest links name origin bytes → Sets ⊤ old digest links name (Some bytes) new later

-- the repository holds nothing now, and the answer says whether it held anything
pub record Releases (answer : Bool) (old : Objects) (digest : List ℕ) (links : Links) (name : List ℕ) (new : Objects) (later : Links) : Type 0 where
  pub was : answer ≡ is_some (held old digest name)
  pub sets : Sets ⊤ old digest links name None new later

-- How a repository comes to hold bytes, where equal ones of others are looked for.
use Rattle.std.specs.Prelude.{◌≡◌, ◌≢◌, ℕ, ◌⊎◌, Bool, true, List, [], ◌∷◌, Option, Some, None}
use Rattle.std.specs.declared.cmp.Ordering.TheVariants.{Less}
use Rattle.zot_digest.specs.ByteMap.{byte_cmp}
use Rattle.zot_outside.specs.Objects.{Objects}
use Rattle.zot_links.specs.Meaning.{IsLink, IsWhole, Links, held, object_at}
use Rattle.zot_links.specs.declared.aim.Aim.{Aim}
use Rattle.zot_links.specs.declared.aim.Aim.TheVariants.{Same, Whole, Link}

-- a whole holder whose object has these bytes
abbrev pub HasWhole : Objects → List ℕ → Links → List ℕ → List ℕ → Type 0
HasWhole objects digest links bytes origin = IsWhole links origin × (object_at objects digest origin ≡ Some bytes)

-- the least of these in byte order
pub record IsLeast (objects : Objects) (digest : List ℕ) (links : Links) (bytes origin : List ℕ) : Type 0 where
  pub whole : HasWhole objects digest links bytes origin
  pub least : (other : List ℕ) → HasWhole objects digest links bytes other → byte_cmp other origin ≢ Less

-- equal bytes of others are looked for: with dedupe, where there is at least one byte
abbrev pub IsSought : Bool → List ℕ → Type 0
IsSought dedupe bytes = (dedupe ≡ true) × (bytes ≢ [])

-- how a repository comes to hold bytes: it holds them already; else, where equal ones are sought and a whole holder has them, by a link to the least such holder in byte order; else by an object of its own
abbrev pub IsAim : Bool → Objects → List ℕ → Links → List ℕ → List ℕ → Aim → Type 0
IsAim dedupe objects digest links name bytes Same = held objects digest name ≡ Some bytes
IsAim dedupe objects digest links name bytes Whole =
    (held objects digest name ≢ Some bytes) × (IsSought dedupe bytes → (origin : List ℕ) → HasWhole objects digest links bytes origin → ⊥)
IsAim dedupe objects digest links name bytes (Link origin) = (held objects digest name ≢ Some bytes) × IsSought dedupe bytes × IsLeast objects digest links bytes origin

-- what is kept of it then: what was, a whole holder, or a link
abbrev pub Attains : Aim → Links → List ℕ → Links → Type 0
Attains Same links name later = later ≡ links
Attains Whole links name later = IsWhole later name
Attains (Link origin) links name later = IsLink later name origin

-- the repository came to hold these bytes in this way
abbrev pub IsAimed : Bool → Objects → List ℕ → Links → List ℕ → List ℕ → Links → Type 0
IsAimed dedupe objects digest links name bytes later = (aim : Aim) × IsAim dedupe objects digest links name bytes aim × Attains aim links name later

-- ---- holders one by one, in their order

-- a whole holder whose object has these bytes
abbrev pub HasBytes : (List ℕ → Option (List ℕ)) → List ℕ → List ℕ → Option (List ℕ) → Type 0
HasBytes object bytes name origin = (origin ≡ None) × (object name ≡ Some bytes)

-- the first of these, or none
abbrev pub IsFirst : (List ℕ → Option (List ℕ)) → List ℕ → List (List ℕ × Option (List ℕ)) → Option (List ℕ) → Type 0
IsFirst object bytes [] found = found ≡ None
IsFirst object bytes (e ∷ es) found = (HasBytes object bytes e.0 e.1 × (found ≡ Some e.0)) ⊎ ((HasBytes object bytes e.0 e.1 → ⊥) × IsFirst object bytes es found)

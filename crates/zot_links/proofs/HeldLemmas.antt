-- What a repository holds, by the object that it stands for.
use Rattle.std.proofs.Common.{◌≡◌, ℕ, Bool, false, true, List, length, Option, Some, None, is_some, IsSome, IsNone, IfSome, IsSomeAnd, refl, sym, ap, subst, ◌∙◌}
use Rattle.std.specs.Prelude.{option_map, ⊤}
use Rattle.std.specs.FinMap as map
use Rattle.std.proofs.lemmas.Bool.{true≢false}
use Rattle.zot_names.specs.Name.{IsName}
use Rattle.zot_outside.specs.Objects.{IsMissing, Objects, Told}
use Rattle.zot_outside.specs.Whole.{HasObject}
use Rattle.zot_links.proofs.PartLemmas.{there_object}
use Rattle.zot_links.proofs.ReleaseLemmas.{absent_held, release_link, release_none, release_whole}
use Rattle.zot_links.proofs.StandLemmas.{held_is, holds, link_holds, whole_holds}
use Rattle.zot_links.specs.Changes.{Sets}
use Rattle.zot_links.specs.Holding.{MayChange, Releases, source_of}
use Rattle.zot_links.specs.Meaning.{IsFree, Links, Stands, StandsWhereTold, held, object_at, object_path}

-- ---- an object that is there

-- a store that misses an object which is there doesn't tell its objects
pub untold : (before after : Option Objects) (digest name path : List ℕ) → path ≡ object_path digest name → IfSome before (λ told. IsSome (object_at told digest name)) → IsMissing before path
    → after ≡ before → IsNone after
untold None after digest name path at there missing kept = ap is_some kept
untold (Some told) after digest name path at there missing kept =
    absurd (true≢false (sym (there_object told digest name path at there) ∙ ap is_some missing))

read_by : (found : Option (List ℕ)) (bytes : List ℕ) → IsSomeAnd found (λ object. bytes ≡ object) → found ≡ Some bytes
read_by None bytes h = absurd h
read_by (Some object) bytes h = ap Some (sym h)

at_path : (objects : Objects) (digest name path : List ℕ) → path ≡ object_path digest name → object_at objects digest name ≡ map.get objects path
unfolding object_at
at_path objects digest name path at = ap (map.get objects) (sym at)

-- all of it was read, or its size was asked
pub object_read : (objects : Option Objects) (digest name path bytes : List ℕ) → path ≡ object_path digest name → HasObject objects path (λ object. bytes ≡ object)
    → IfSome objects (λ told. object_at told digest name ≡ Some bytes)
object_read None digest name path bytes at h = tt
object_read (Some told) digest name path bytes at h = at_path told digest name path at ∙ read_by (map.get told path) bytes h

some_at : (found mine : Option (List ℕ)) (P : List ℕ → Type 0) → mine ≡ found → IsSomeAnd found P → IsSomeAnd mine P
some_at found mine P is h = subst (λ (o : Option (List ℕ)). IsSomeAnd o P) (sym is) h

pub object_sized : (objects : Option Objects) (digest name path : List ℕ) (n : ℕ) → path ≡ object_path digest name → HasObject objects path (λ object. n ≡ length object)
    → IfSome objects (λ told. IsSomeAnd (object_at told digest name) (λ bytes. n ≡ length bytes))
object_sized None digest name path n at h = tt
object_sized (Some told) digest name path n at h = some_at (map.get told path) (object_at told digest name) (λ bytes. n ≡ length bytes) (at_path told digest name path at) h

-- ---- what is held

-- no holder, which stands for nothing
no_source : (name : List ℕ) (holder : Option (Option (List ℕ))) → None ≡ source_of name holder → holder ≡ None
no_source name None h = refl
no_source name (Some origin) h = cc h

pub nothing_there : (objects : Objects) (digest : List ℕ) (links : Links) (name : List ℕ) → Stands objects digest links → IsName name → None ≡ source_of name (map.get links name)
    → held objects digest name ≡ None
nothing_there objects digest links name s is none = absent_held objects digest links name s is (no_source name (map.get links name) none)

pub held_source : (objects : Objects) (digest : List ℕ) (links : Links) (name source : List ℕ) → Stands objects digest links → IsName name → Some source ≡ source_of name (map.get links name)
    → held objects digest name ≡ object_at objects digest source
held_source objects digest links name source s is from = held_is objects digest links s name is ∙ split (map.get links name) refl from where
  split : (holder : Option (Option (List ℕ))) → map.get links name ≡ holder → Some source ≡ source_of name holder → holds objects digest links name ≡ object_at objects digest source
  split None at h = cc h
  split (Some None) at h = let same : source ≡ name = cc h in whole_holds objects digest links name at ∙ ap (object_at objects digest) (sym same)
  split (Some (Some origin)) at h =
      let same : source ≡ origin = cc h in link_holds objects digest links name origin (s.there name (ap is_some at)) at ∙ ap (object_at objects digest) (sym same)

pub none_found : (objects : Option Objects) (digest : List ℕ) (links : Links) (name : List ℕ) → StandsWhereTold objects digest links → IsName name → None ≡ source_of name (map.get links name)
    → IfSome objects (λ told. None ≡ held told digest name)
none_found None digest links name s is none = tt
none_found (Some told) digest links name s is none = sym (nothing_there told digest links name s is none)

pub bytes_found : (objects : Option Objects) (digest : List ℕ) (links : Links) (name source bytes : List ℕ) → StandsWhereTold objects digest links → IsName name
    → Some source ≡ source_of name (map.get links name) → IfSome objects (λ told. object_at told digest source ≡ Some bytes) → IfSome objects (λ told. Some bytes ≡ held told digest name)
bytes_found None digest links name source bytes s is from h = tt
bytes_found (Some told) digest links name source bytes s is from h = sym (held_source told digest links name source s is from ∙ h)

pub none_sized : (objects : Option Objects) (digest : List ℕ) (links : Links) (name : List ℕ) → StandsWhereTold objects digest links → IsName name → None ≡ source_of name (map.get links name)
    → IfSome objects (λ told. None ≡ option_map length (held told digest name))
none_sized None digest links name s is none = tt
none_sized (Some told) digest links name s is none = sym (ap (option_map length) (nothing_there told digest links name s is none))

size_by : (found : Option (List ℕ)) (n : ℕ) → IsSomeAnd found (λ bytes. n ≡ length bytes) → Some n ≡ option_map length found
size_by None n h = absurd h
size_by (Some bytes) n h = ap Some h

pub size_found : (objects : Option Objects) (digest : List ℕ) (links : Links) (name source : List ℕ) (n : ℕ) → StandsWhereTold objects digest links → IsName name
    → Some source ≡ source_of name (map.get links name) → IfSome objects (λ told. IsSomeAnd (object_at told digest source) (λ bytes. n ≡ length bytes))
    → IfSome objects (λ told. Some n ≡ option_map length (held told digest name))
size_found None digest links name source n s is from h = tt
size_found (Some told) digest links name source n s is from h =
    size_by (object_at told digest source) n h ∙ sym (ap (option_map length) (held_source told digest links name source s is from))

-- ---- what is given up

pub released_none : (before : Option Objects) (digest : List ℕ) (links : Links) (name : List ℕ) → IsName name → None ≡ source_of name (map.get links name)
    → Told before before (λ old new. Stands old digest links → MayChange links name → Releases false old digest links name new links)
released_none before digest links name is none = release_none before digest links name is (no_source name (map.get links name) none)

pub released_holder : (before after : Option Objects) (digest : List ℕ) (links later : Links) (name source : List ℕ) (was : Bool) → IsName name → Some source ≡ source_of name (map.get links name)
    → was ≡ true → Told before after (λ old new. Stands old digest links → IsFree links name → Sets ⊤ old digest links name None new later)
    → Told before after (λ old new. Stands old digest links → MayChange links name → Releases was old digest links name new later)
released_holder before after digest links later name source was is from answer h = split (map.get links name) refl from where
  split : (holder : Option (Option (List ℕ))) → map.get links name ≡ holder → Some source ≡ source_of name holder
      → Told before after (λ old new. Stands old digest links → MayChange links name → Releases was old digest links name new later)
  split None at k = cc k
  split (Some None) at k = release_whole before after digest links later name was is at answer h
  split (Some (Some origin)) at k = release_link before after digest links later name was is (origin, at) answer h

-- What a store over a tree answers.
use Rattle.std.proofs.Common.{◌≡◌, ◌≢◌, ℕ, List, ◌++◌, Option, Some, None, refl, sym, subst, Result, Ok, Err, IfOk, IfSome, IsSomeAnd, MatchOption, OnErr, OnOk}
use Rattle.std.specs.FinMap as map
use Rattle.zot_maps.proofs.Maps.{byte_order, get_elsewhere, removed_elsewhere}
use Rattle.zot_folder.proofs.NextLemmas.{told_both}
use Rattle.zot_folder.specs.Held.{IsWalkOf, Walks}
use Rattle.zot_folder.specs.Trees.{Files, KeepsOthers, Stores, content_in, objects_of}
use Rattle.zot_folder.specs.declared.tree.Content.{Content}
use Rattle.zot_folder.specs.declared.walk.Walk.{Walk}
use Rattle.zot_outside.specs.Objects.{Copies, Deletes, Extends, IsMissing, Keeps, Objects, bytes_at, with_object}

-- the other objects after a call at one path
kept_others : (before after : Option Objects) (path : List ℕ) → Keeps before after → KeepsOthers before path after
kept_others None after path h = h
kept_others (Some objects) after path h = subst (λ a. IsSomeAnd a (λ now. (other : List ℕ) → other ≢ path → map.get now other ≡ map.get objects other)) (sym h) (λ other far. refl)

set_others : (objects : Objects) (after : Option Objects) (path bytes : List ℕ) → after ≡ Some (with_object objects path bytes) → KeepsOthers (Some objects) path after
set_others objects after path bytes h =
    subst (λ a. IsSomeAnd a (λ now. (other : List ℕ) → other ≢ path → map.get now other ≡ map.get objects other)) (sym h) (λ other far. get_elsewhere byte_order objects path bytes other far)

content_others : (objects : Objects) (after : Option Objects) (path : List ℕ) (found : Option (List ℕ)) → IsSomeAnd found (λ bytes. after ≡ Some (with_object objects path bytes)) → KeepsOthers (Some objects) path after
content_others objects after path None h = absurd h
content_others objects after path (Some bytes) h = set_others objects after path bytes h

stored_others : (before after : Option Objects) (path : List ℕ) (content : Content) → Stores before path content after → KeepsOthers before path after
stored_others None after path content h = h
stored_others (Some objects) after path content h = content_others objects after path (content_in objects content) h

extended_others : (before after : Option Objects) (path bytes : List ℕ) → Extends before path bytes after → KeepsOthers before path after
extended_others None after path bytes h = h
extended_others (Some objects) after path bytes h = set_others objects after path (bytes_at objects path ++ bytes) h

copied_others : (before after : Option Objects) (source path : List ℕ) → Copies before source path after → KeepsOthers before path after
copied_others None after source path h = h
copied_others (Some objects) after source path h = set_others objects after path h.0 h.2

removed_others : (before after : Option Objects) (path : List ℕ) → Deletes before path after → KeepsOthers before path after
removed_others None after path h = h
removed_others (Some objects) after path h =
    subst (λ a. IsSomeAnd a (λ now. (other : List ℕ) → other ≢ path → map.get now other ≡ map.get objects other)) (sym h.1) (λ other far. removed_elsewhere byte_order objects path other far)

-- a walk that has noted a path goes on being one of the objects, whatever a call at the path did
pub goes_on : (before after : Option Objects) (path : List ℕ) (walk noted : Walk) → ((old now : Objects) → ((other : List ℕ) → other ≢ path → map.get now other ≡ map.get old other) → IsWalkOf old walk → IsWalkOf now noted)
    → KeepsOthers before path after → Walks before walk → Walks after noted
goes_on None after path walk noted note h walks = subst (λ a. Walks a noted) (sym h) tt
goes_on (Some old) None path walk noted note h walks = tt
goes_on (Some old) (Some now) path walk noted note h walks = note old now h walks

module _ {E : Type 0} where
  pub written_others : (r : Result (Unit {0}) E) (before after : Option Objects) (path : List ℕ) (content : Content) → OnOk r (Stores before path content after) → OnErr r (Keeps before after) → KeepsOthers before path after
  written_others (Ok x) before after path content h k = stored_others before after path content h
  written_others (Err e) before after path content h k = kept_others before after path k

  pub appended_others : (r : Result (Unit {0}) E) (before after : Option Objects) (path bytes : List ℕ) → OnOk r (Extends before path bytes after) → OnErr r (Keeps before after) → KeepsOthers before path after
  appended_others (Ok x) before after path bytes h k = extended_others before after path bytes h
  appended_others (Err e) before after path bytes h k = kept_others before after path k

  pub copy_others : (r : Result (Option (Unit {0})) E) (before after : Option Objects) (source path : List ℕ) → IfOk r (λ found. MatchOption found (IsMissing before source × Keeps before after) (λ _. Copies before source path after)) → OnErr r (Keeps before after)
      → KeepsOthers before path after
  copy_others (Ok None) before after source path h k = kept_others before after path h.1
  copy_others (Ok (Some x)) before after source path h k = copied_others before after source path h
  copy_others (Err e) before after source path h k = kept_others before after path k

  pub delete_others : (r : Result (Option (Unit {0})) E) (before after : Option Objects) (path : List ℕ) → IfOk r (λ found. MatchOption found (IsMissing before path × Keeps before after) (λ _. Deletes before path after)) → OnErr r (Keeps before after)
      → KeepsOthers before path after
  delete_others (Ok None) before after path h k = kept_others before after path h.1
  delete_others (Ok (Some x)) before after path h k = removed_others before after path h
  delete_others (Err e) before after path h k = kept_others before after path k

-- nor does a listing end that
pub walked_on : (before after : Option Files) (walk listed : Walk) → Keeps before after → IfSome (objects_of before) (λ objects. IsWalkOf objects walk → IsWalkOf objects listed) → Walks (objects_of before) walk → Walks (objects_of after) listed
walked_on before after walk listed kept lists walks =
    subst (λ files. Walks (objects_of files) listed) (sym kept)
    (told_both (objects_of before) (λ objects. IsWalkOf objects walk → IsWalkOf objects listed) (λ objects. IsWalkOf objects walk) (λ objects. IsWalkOf objects listed) (λ objects list h. list h) lists walks)

-- What the calls of a tree make of its objects.
use Rattle.std.proofs.Common.{◌≡◌, ◌≢◌, ℕ, ◌+◌, Bool, true, false, cond, List, ◌++◌, length, take, Option, Some, None, refl, sym, ap, ◌∙◌, subst, arith, IfSome, IsSome, IsSomeAnd, MatchOption, option_map, is_some}
use Rattle.std.proofs.lemmas.Bool.{true≢false}
use Rattle.std.proofs.lemmas.List.{take-append-le, take_all}
use Rattle.std.specs.FinMap as map
use Rattle.std.specs.FinMap.{get-retain_keys}
use Rattle.zot_maps.proofs.Maps.{byte_order, get_elsewhere, get_here, same_by_key, same_map}
use Rattle.zot_folder.specs.Paths.{is_object_path}
use Rattle.zot_folder.specs.Trees.{Becomes, Cuts, Files, Grows, HasSizeOrNone, Holds, IsOfObject, KeepsOthers, Moves, Publishes, Receives, Renames, ShowsAt, Stores, Tears, TearsAt, content_in, file_size, objects_in, objects_of}
use Rattle.zot_folder.specs.declared.tree.Content.{Content}
use Rattle.zot_folder.specs.declared.tree.Content.TheVariants.{Bytes, CopyOf}
use Rattle.zot_folder.specs.declared.tree.Kind.{Kind}
use Rattle.zot_folder.specs.declared.tree.Kind.TheVariants.{File, Folder, Other}
use Rattle.zot_outside.proofs.ObjectLemmas.{changes-put, changes-remove, one_change}
use Rattle.zot_outside.specs.Objects.{ChangesAt, Copies, Deletes, Extends, HasSize, IsMissing, Keeps, Objects, ReadsAt, bytes_at, with_object}

-- the object of a path is the file there, if the path can have one
object_at : (files : Files) (path : List ℕ) → map.get (objects_in files) path ≡ cond (is_object_path path) (map.get files path) None
object_at files path = get-retain_keys files is_object_path path (λ other tied. ap is_object_path (sym (byte_order.antisymmetric path other tied)))

there : (files : Files) (path : List ℕ) → is_object_path path ≡ true → map.get (objects_in files) path ≡ map.get files path
there files path named = object_at files path ∙ ap (λ b. cond b (map.get files path) None) named

nowhere : (files : Files) (path : List ℕ) → is_object_path path ≡ false → map.get (objects_in files) path ≡ None
nowhere files path hidden = object_at files path ∙ ap (λ b. cond b (map.get files path) None) hidden

-- an object's path can have one
pub objects_named : (files : Files) (path : List ℕ) → IsSome (map.get (objects_in files) path) → is_object_path path ≡ true
objects_named files path held =
    elim (is_object_path path) as (λ b. is_object_path path ≡ b → b ≡ true) [
      | true ↦ λ _. refl
      | false ↦ λ hidden. cc (sym held ∙ ap is_some (nowhere files path hidden))
    ] refl

-- a path that can have an object and one that can't are two
apart : (path other : List ℕ) → is_object_path path ≡ true → is_object_path other ≡ false → path ≢ other
apart path other named hidden is = true≢false (sym named ∙ ap is_object_path is ∙ hidden)

-- files that are alike at a path that can have an object
alike_at : (one other : Files) (path : List ℕ) → (is_object_path path ≡ true → map.get one path ≡ map.get other path) → map.get (objects_in one) path ≡ map.get (objects_in other) path
alike_at one other path h =
    elim (is_object_path path) as (λ b. is_object_path path ≡ b → map.get (objects_in one) path ≡ map.get (objects_in other) path) [
      | true ↦ λ named. there one path named ∙ h named ∙ sym (there other path named)
      | false ↦ λ hidden. nowhere one path hidden ∙ sym (nowhere other path hidden)
    ] refl

same_objects : (one other : Files) → ((path : List ℕ) → is_object_path path ≡ true → map.get one path ≡ map.get other path) → objects_in one ≡ objects_in other
same_objects one other h = same_map byte_order (objects_in one) (objects_in other) (λ path. alike_at one other path (h path))

-- a change of one file is one of its object
changed : (files now : Files) (path : List ℕ) (file : Option (List ℕ)) → is_object_path path ≡ true → ChangesAt files path file now → ChangesAt (objects_in files) path file (objects_in now)
changed files now path file named h = record { here = there now path named ∙ h.here; others = λ other far. alike_at now files other (λ _. h.others other far) }

-- a change beside the objects leaves them
pub kept_beside : (before after : Option Files) (path : List ℕ) → is_object_path path ≡ false → KeepsOthers before path after → Keeps (objects_of before) (objects_of after)
kept_beside None after path hidden h = ap objects_of h
kept_beside (Some files) None path hidden h = absurd h
kept_beside (Some files) (Some now) path hidden h = ap Some (same_objects now files (λ q named. h q (apart q path named hidden)))

others_of : (before after : Option Files) (path : List ℕ) (file : Option (List ℕ)) → Becomes before path file after → KeepsOthers before path after
others_of None after path file h = h
others_of (Some files) None path file h = absurd h
others_of (Some files) (Some now) path file h = h.others

pub gone_beside : (before after : Option Files) (path : List ℕ) → is_object_path path ≡ false → Becomes before path None after → Keeps (objects_of before) (objects_of after)
gone_beside before after path hidden h = kept_beside before after path hidden (others_of before after path None h)

-- a path that can have no object has none
pub missing_nowhere : (files : Option Files) (path : List ℕ) → is_object_path path ≡ false → IsMissing (objects_of files) path
missing_nowhere None path hidden = tt
missing_nowhere (Some told) path hidden = nowhere told path hidden

some_is : {X : Type 0} (one other : Option X) (P : X → Type 0) → one ≡ other → IsSomeAnd other P → IsSomeAnd one P
some_is one other P is h = subst (λ o. IsSomeAnd o P) (sym is) h

-- a look shows the size of a path's object
pub sized : (files : Option Files) (path : List ℕ) (found : Option Kind) → is_object_path path ≡ true → ShowsAt files path found → HasSizeOrNone (objects_of files) path (file_size found)
sized None path (Some (File n)) named h = tt
sized None path (Some Folder) named h = tt
sized None path (Some Other) named h = tt
sized None path None named h = tt
sized (Some told) path (Some (File n)) named h = some_is _ _ _ (there told path named) h
sized (Some told) path (Some Folder) named h = there told path named ∙ h
sized (Some told) path (Some Other) named h = there told path named ∙ h
sized (Some told) path None named h = there told path named ∙ h

-- what was read of a file is its object's
pub read_of_object : (files : Option Files) (path : List ℕ) (at : ℕ) (buffer : List ℕ) (n : ℕ) → is_object_path path ≡ true → ReadsAt files path at buffer n → ReadsAt (objects_of files) path at buffer n
read_of_object None path at buffer n named h = record { within = h.within; piece = tt }
read_of_object (Some told) path at buffer n named h = record { within = h.within; piece = some_is _ _ _ (there told path named) h.piece }

-- a content that is an object's is that of the objects
same_content : (files : Files) (content : Content) → IsOfObject content → content_in (objects_in files) content ≡ content_in files content
same_content files (Bytes bytes) of = refl
same_content files (CopyOf path) of = there files path.now of

nothing_there : {X : Type 0} (found : Option X) → IsSomeAnd found (λ _. ⊥) → ⊥
nothing_there None h = h
nothing_there (Some x) h = h

some_then : {X : Type 0} (found : Option X) (P Q : X → Type 0) → ((x : X) → P x → Q x) → IsSomeAnd found P → IsSomeAnd found Q
some_then None P Q f h = h
some_then (Some x) P Q f h = f x h

-- a fresh file has a content, and no object changed
pub received : (before after : Option Files) (path : List ℕ) (content : Content) → IsOfObject content → Receives before path content after → Holds after path (objects_of before) content
received None None path content of h = refl
received None (Some now) path content of h = cc h
received (Some files) None path content of h = absurd (nothing_there (content_in files content) h)
received (Some files) (Some now) path content of h =
    some_is (content_in (objects_in files) content) (content_in files content) (λ bytes. map.get now path ≡ Some bytes) (same_content files content of)
    (some_then (content_in files content) (λ bytes. ChangesAt files path (Some bytes) now) (λ bytes. map.get now path ≡ Some bytes) (λ bytes is. is.here) h)

content_others : (files now : Files) (path : List ℕ) (found : Option (List ℕ)) → IsSomeAnd found (λ bytes. ChangesAt files path (Some bytes) now) → (other : List ℕ) → other ≢ path → map.get now other ≡ map.get files other
content_others files now path None h = absurd h
content_others files now path (Some bytes) h = h.others

pub received_beside : (before after : Option Files) (path : List ℕ) (content : Content) → is_object_path path ≡ false → Receives before path content after → Keeps (objects_of before) (objects_of after)
received_beside None after path content hidden h = ap objects_of h
received_beside (Some files) None path content hidden h = absurd (nothing_there (content_in files content) h)
received_beside (Some files) (Some now) path content hidden h = kept_beside (Some files) (Some now) path hidden (content_others files now path (content_in files content) h)

-- a fresh file that gets a path is the object there
moved : (files now : Files) (fresh path : List ℕ) (found : Option (List ℕ)) → is_object_path fresh ≡ false → is_object_path path ≡ true → Moves files fresh path now → map.get files fresh ≡ found
    → IfSome found (λ bytes. Some (objects_in now) ≡ Some (with_object (objects_in files) path bytes))
moved files now fresh path None hidden named h is = tt
moved files now fresh path (Some bytes) hidden named h is =
    ap Some (same_by_key byte_order (objects_in now) (with_object (objects_in files) path bytes) path
    (there now path named ∙ h.here ∙ is ∙ sym (get_here byte_order (objects_in files) path bytes))
    (λ other far. alike_at now files other (λ k. h.others other (apart other fresh k hidden) far) ∙ sym (get_elsewhere byte_order (objects_in files) path bytes other far)))

pub published : (before after : Option Files) (fresh path : List ℕ) → is_object_path fresh ≡ false → is_object_path path ≡ true → Renames before fresh path after → Publishes before fresh path (objects_of after)
published None after fresh path hidden named h = ap objects_of h
published (Some files) None fresh path hidden named h = absurd h
published (Some files) (Some now) fresh path hidden named h = moved files now fresh path (map.get files fresh) hidden named h refl

copied_from : (objects : Objects) (source path : List ℕ) (found : Option (List ℕ)) (after : Option Objects) → map.get objects source ≡ found → IsSomeAnd found (λ bytes. after ≡ Some (with_object objects path bytes))
    → (bytes : List ℕ) × (map.get objects source ≡ Some bytes) × (after ≡ Some (with_object objects path bytes))
copied_from objects source path None after is h = absurd h
copied_from objects source path (Some bytes) after is h = (bytes, is, h)

pub copied : (before after : Option Objects) (source path : _) → Stores before path (CopyOf source) after → Copies before source.now path after
copied None after source path h = h
copied (Some objects) after source path h = copied_from objects source.now path (map.get objects source.now) after refl h

-- an object that grew
pub grown : (before after : Option Files) (path bytes : List ℕ) → is_object_path path ≡ true → Grows before path bytes after → Extends (objects_of before) path bytes (objects_of after)
grown None after path bytes named h = ap objects_of h
grown (Some files) None path bytes named h = absurd h
grown (Some files) (Some now) path bytes named h =
    let whole = bytes_at (objects_in files) path ++ bytes in
    let same : bytes_at files path ≡ bytes_at (objects_in files) path = ap (λ f. Rattle.std.proofs.Common.unwrap_or f Rattle.std.proofs.Common.[]) (sym (there files path named)) in
    ap Some (one_change (objects_in files) (objects_in now) (with_object (objects_in files) path whole) path (Some whole)
    (subst (λ b. ChangesAt (objects_in files) path (Some (b ++ bytes)) (objects_in now)) same (changed files now path (Some (bytes_at files path ++ bytes)) named h))
    (changes-put (objects_in files) path whole))

is_there : (found : Option (List ℕ)) (P : List ℕ → Type 0) → IsSomeAnd found P → IsSome found
is_there None P h = absurd h
is_there (Some x) P h = refl

-- an object that was removed
pub removed : (before after : Option Files) (path : List ℕ) (n : ℕ) → is_object_path path ≡ true → HasSize (objects_of before) path n → Becomes before path None after → Deletes (objects_of before) path (objects_of after)
removed None after path n named size h = ap objects_of h
removed (Some files) None path n named size h = absurd h
removed (Some files) (Some now) path n named size h = (
  is_there (map.get (objects_in files) path) (λ bytes. n ≡ length bytes) size,
  ap Some (one_change (objects_in files) (objects_in now) (map.remove (objects_in files) path) path None (changed files now path None named h) (changes-remove (objects_in files) path)),
)

-- a file that was torn and then cut back is as before
cut_back : (files mid now : Files) (path : List ℕ) (n : ℕ) (found : Option (List ℕ)) → map.get files path ≡ found → IsSomeAnd found (λ bytes. n ≡ length bytes) → TearsAt files path mid
    → ChangesAt mid path (option_map (take n) (map.get mid path)) now → map.get now path ≡ map.get files path
cut_back files mid now path n None is size torn cut = absurd size
cut_back files mid now path n (Some bytes) is size torn cut =
    let longer = subst (λ f. IfSome f (λ b. (more : List ℕ) × (map.get mid path ≡ Some (b ++ more)))) is torn.begins in
    cut.here ∙ ap (option_map (take n)) longer.1
    ∙ ap Some (take-append-le n bytes longer.0 (omega (arith, size)) ∙ take_all n bytes (omega (arith, size))) ∙ sym is

pub cut_restores : (before mid after : Option Files) (path : List ℕ) (n : ℕ) → HasSize (objects_of before) path n → Tears before path mid → Cuts mid path n after → Keeps (objects_of before) (objects_of after)
cut_restores None mid after path n size torn cut = ap objects_of (subst (λ m. Cuts m path n after) torn cut)
cut_restores (Some files) None after path n size torn cut = absurd torn
cut_restores (Some files) (Some mid) None path n size torn cut = absurd cut
cut_restores (Some files) (Some mid) (Some now) path n size torn cut =
    let others = λ (other : List ℕ) (far : other ≢ path). cut.others other far ∙ torn.others other far in
    ap Some (same_by_key byte_order (objects_in now) (objects_in files) path
    (alike_at now files path (λ named. cut_back files mid now path n (map.get files path) refl (some_is (map.get files path) (map.get (objects_in files) path) (λ bytes. n ≡ length bytes) (sym (there files path named)) size) torn cut))
    (λ other far. alike_at now files other (λ _. others other far)))

pub removal_restores : (before mid after : Option Files) (path : List ℕ) → IsMissing (objects_of before) path → Tears before path mid → Becomes mid path None after → Keeps (objects_of before) (objects_of after)
removal_restores None mid after path size torn gone = ap objects_of (subst (λ m. Becomes m path None after) torn gone)
removal_restores (Some files) None after path size torn gone = absurd torn
removal_restores (Some files) (Some mid) None path size torn gone = absurd gone
removal_restores (Some files) (Some mid) (Some now) path size torn gone =
    let others = λ (other : List ℕ) (far : other ≢ path). gone.others other far ∙ torn.others other far in
    ap Some (same_by_key byte_order (objects_in now) (objects_in files) path
    (alike_at now files path (λ named. gone.here ∙ sym size ∙ there files path named))
    (λ other far. alike_at now files other (λ _. others other far)))

-- what a failed write of the object of a path left is taken back
pub restored : (before mid after : Option Files) (path : List ℕ) (found : Option ℕ) → HasSizeOrNone (objects_of before) path found → Tears before path mid
    → MatchOption found (Becomes mid path None after) (λ n. Cuts mid path n after) → Keeps (objects_of before) (objects_of after)
restored before mid after path None size torn back = removal_restores before mid after path size torn back
restored before mid after path (Some n) size torn back = cut_restores before mid after path n size torn back

-- a fresh file of which a part was left, and was removed
pub discarded : (before mid after : Option Files) (path : List ℕ) → is_object_path path ≡ false → KeepsOthers before path mid → Becomes mid path None after → Keeps (objects_of before) (objects_of after)
discarded before mid after path hidden h k = gone_beside mid after path hidden k ∙ kept_beside before mid path hidden h

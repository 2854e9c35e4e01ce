-- What is known of a tree where a call of it succeeded or failed.
use Rattle.std.proofs.Common.{◌≡◌, ℕ, Bool, true, false, IsTrue, IsFalse, List, Option, None, refl, ap, ◌∙◌, MatchOption, Result, Ok, Err, is_err, IfOk, OnErr, OnOk}
use Rattle.zot_folder.proofs.TreeLemmas.{discarded, gone_beside, grown, published, received, received_beside, restored}
use Rattle.zot_folder.specs.Paths.{is_object_path}
use Rattle.zot_folder.specs.Trees.{Becomes, Cuts, Files, Grows, HasSizeOrNone, Holds, IsOfObject, KeepsOthers, Publishes, Receives, Renames, Tears, objects_of}
use Rattle.zot_folder.specs.declared.tree.Content.{Content}
use Rattle.zot_outside.specs.Objects.{Extends, Keeps}

module _ {X E : Type 0} where
  -- a fact of a call that failed
  failed_fact : (r : Result X E) (P : Type 0) → true ≡ is_err r → OnErr r P → P
  failed_fact (Ok x) P failed h = cc failed
  failed_fact (Err e) P failed h = h

  on_err : (r : Result X E) (P Q : Type 0) → (P → Q) → OnErr r P → OnErr r Q
  on_err (Ok x) P Q f h = tt
  on_err (Err e) P Q f h = f h

  on_ok : (r : Result X E) (P Q : Type 0) → (P → Q) → OnOk r P → OnOk r Q
  on_ok (Ok x) P Q f h = f h
  on_ok (Err e) P Q f h = tt

  -- a fresh file that wasn't made, and what is left of it removed
  pub create_failed : (r : Result X E) (before mid after : Option Files) (fresh : List ℕ) → is_object_path fresh ≡ false → true ≡ is_err r → OnErr r (KeepsOthers before fresh mid) → Becomes mid fresh None after
      → Keeps (objects_of before) (objects_of after)
  create_failed r before mid after fresh hidden failed h k = discarded before mid after fresh hidden (failed_fact r _ failed h) k

  -- a fresh file that didn't get a path, and was removed
  pub publish_failed : (r : Result X E) (before mid after : Option Files) (fresh : List ℕ) → is_object_path fresh ≡ false → OnErr r (Keeps before mid) → Becomes mid fresh None after → OnErr r (Keeps (objects_of before) (objects_of after))
  publish_failed r before mid after fresh hidden h k = on_err r (Keeps before mid) (Keeps (objects_of before) (objects_of after)) (λ kept. gone_beside mid after fresh hidden k ∙ ap objects_of kept) h

  pub publish_done : (r : Result X E) (before after : Option Files) (fresh path : List ℕ) → is_object_path fresh ≡ false → is_object_path path ≡ true → OnOk r (Renames before fresh path after)
      → OnOk r (Publishes before fresh path (objects_of after))
  publish_done r before after fresh path hidden named h = on_ok r (Renames before fresh path after) (Publishes before fresh path (objects_of after)) (published before after fresh path hidden named) h

  -- a file that was torn, and was restored
  pub extend_failed : (r : Result X E) (before mid after : Option Files) (path : List ℕ) (found : Option ℕ) → HasSizeOrNone (objects_of before) path found → OnErr r (Tears before path mid)
      → MatchOption found (Becomes mid path None after) (λ n. Cuts mid path n after) → OnErr r (Keeps (objects_of before) (objects_of after))
  extend_failed r before mid after path found size h k =
      on_err r (Tears before path mid) (Keeps (objects_of before) (objects_of after)) (λ torn. restored before mid after path found size torn k) h

  pub extend_done : (r : Result X E) (before after : Option Files) (path bytes : List ℕ) → is_object_path path ≡ true → OnOk r (Grows before path bytes after) → OnOk r (Extends (objects_of before) path bytes (objects_of after))
  extend_done r before after path bytes named h = on_ok r (Grows before path bytes after) (Extends (objects_of before) path bytes (objects_of after)) (grown before after path bytes named) h

-- a fresh file that was made, or whose path was taken
pub created_holds : {E : Type 0} (r : Result Bool E) (before after : Option Files) (fresh : List ℕ) (content : Content) → IsOfObject content → IfOk r (λ made. IsTrue made → Receives before fresh content after)
    → IfOk r (λ made. IsTrue made → Holds after fresh (objects_of before) content)
created_holds (Ok made) before after fresh content of h = λ t. received before after fresh content of (h t)
created_holds (Err e) before after fresh content of h = tt

pub created_kept : {E : Type 0} (r : Result Bool E) (before after : Option Files) (fresh : List ℕ) (content : Content) → is_object_path fresh ≡ false → false ≡ is_err r
    → IfOk r (λ made. IsTrue made → Receives before fresh content after) → IfOk r (λ made. IsFalse made → Keeps before after) → Keeps (objects_of before) (objects_of after)
created_kept (Ok true) before after fresh content hidden whole h k = received_beside before after fresh content hidden (h refl)
created_kept (Ok false) before after fresh content hidden whole h k = ap objects_of (k refl)
created_kept (Err e) before after fresh content hidden whole h k = cc whole

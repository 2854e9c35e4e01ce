-- What a part's calls on a digest's objects do, where it tells its objects.
use Rattle.std.proofs.Common.{◌≡◌, ℕ, Bool, true, false, IsTrue, ◌↔◌, List, [], ◌∷◌, ◌==◌, Option, Some, None, length, refl, sym, ap, subst, ◌∙◌, IfSome, IsSome, IsSomeAnd, is_some, arith}
use Rattle.std.specs.Prelude.{Result, Ok, Err, OnErr, OnOk}
use Rattle.std.specs.FinMap as map
use Rattle.std.proofs.lemmas.Bool.{eqb-true}
use Rattle.zot_digest.specs.Digest.{IsDigest}
use Rattle.zot_outside.specs.Objects.{ChangesAt, Copies, IsMissing, Objects, Puts, Told}
use Rattle.zot_outside.specs.Whole.{HasObject}
use Rattle.zot_links.proofs.PathLemmas.{sets_object, sets_record}
use Rattle.zot_links.proofs.ToldLemmas.{told_copies, told_puts, told_so}
use Rattle.zot_links.specs.Changes.{RecordsLinks, SetsObject, WritesRecord}
use Rattle.zot_links.specs.Meaning.{Links, object_at, object_path, record_in, record_path}
use Rattle.zot_links.specs.Records.{line_in, record_of}
use Rattle.zot_links.specs.declared.record_line.RecordLine.{RecordLine}

-- a fact of a result that follows from another
pub ok_so : {T E : Type 0} (r : Result T E) (P Q : Type 0) → (P → Q) → OnOk r P → OnOk r Q
ok_so (Ok x) P Q f h = f h
ok_so (Err e) P Q f h = h

-- a path that has what it had
unchanged : (objects : Objects) (path : List ℕ) (object : Option (List ℕ)) → map.get objects path ≡ object → ChangesAt objects path object objects
unchanged objects path object has = record { here = has; others = λ _ _. refl }

-- ---- objects

module _ (before after : Option Objects) (digest name path : List ℕ) (is : IsDigest digest) (at : path ≡ object_path digest name) where
  pub object_puts : (bytes : List ℕ) → Puts before path bytes after → Told before after (λ old new. SetsObject old digest name (Some bytes) new)
  object_puts bytes h =
      told_so before after (λ old new. ChangesAt old path (Some bytes) new) (λ old new. SetsObject old digest name (Some bytes) new)
      (λ old new k. sets_object old new digest name (Some bytes) is (subst (λ p. ChangesAt old p (Some bytes) new) at k)) (told_puts before after path bytes h)

  pub object_deleted : Told before after (λ old new. ChangesAt old path None new) → Told before after (λ old new. SetsObject old digest name None new)
  object_deleted h =
      told_so before after (λ old new. ChangesAt old path None new) (λ old new. SetsObject old digest name None new)
      (λ old new k. sets_object old new digest name None is (subst (λ p. ChangesAt old p None new) at k)) h

still_gone : (before : Option Objects) (path : List ℕ) → IsMissing before path → Told before before (λ old new. ChangesAt old path None new)
still_gone None path missing = refl
still_gone (Some old) path missing = unchanged old path None missing

pub path_gone : (before after : Option Objects) (path : List ℕ) → IsMissing before path → after ≡ before → Told before after (λ old new. ChangesAt old path None new)
path_gone before after path missing kept = subst (λ o. Told before o (λ old new. ChangesAt old path None new)) (sym kept) (still_gone before path missing)

object_found : (objects : Objects) (digest name source bytes : List ℕ) → source ≡ object_path digest name → map.get objects source ≡ Some bytes → object_at objects digest name ≡ Some bytes
unfolding object_at
object_found objects digest name source bytes at has = ap (map.get objects) (sym at) ∙ has

pub object_copies : (before after : Option Objects) (digest from to source path : List ℕ) → IsDigest digest → source ≡ object_path digest from → path ≡ object_path digest to → Copies before source path after
    → Told before after (λ old new. SetsObject old digest to (object_at old digest from) new)
object_copies before after digest from to source path is at on h =
    told_so before after (λ old new. (bytes : List ℕ) × (map.get old source ≡ Some bytes) × ChangesAt old path (Some bytes) new) (λ old new. SetsObject old digest to (object_at old digest from) new)
    (λ old new k. subst (λ o. SetsObject old digest to o new) (sym (object_found old digest from source k.0 at k.1))
    (sets_object old new digest to (Some k.0) is (subst (λ p. ChangesAt old p (Some k.0) new) on k.2)))
    (told_copies before after source path h)

pub there_object : (objects : Objects) (digest name path : List ℕ) → path ≡ object_path digest name → IsSome (object_at objects digest name) → IsSome (map.get objects path)
unfolding object_at
there_object objects digest name path at there = ap (λ p. is_some (map.get objects p)) at ∙ there

pub source_there : (objects : Option Objects) (digest name path : List ℕ) → path ≡ object_path digest name → IfSome objects (λ told. IsSome (object_at told digest name))
    → IfSome objects (λ told. IsSome (map.get told path))
source_there None digest name path at there = tt
source_there (Some told) digest name path at there = there_object told digest name path at there

-- ---- objects compared with bytes

compared_by : (found : Option (List ℕ)) (bytes : List ℕ) (same : Bool) → IsSomeAnd found (λ object. IsTrue same ↔ (object ≡ bytes)) → IsTrue same ↔ (found ≡ Some bytes)
compared_by None bytes same h = absurd h
compared_by (Some object) bytes same h = (λ t. ap Some (h.0 t), λ k. h.1 (let e : object ≡ bytes = cc k in e))

pub path_compared : (objects : Option Objects) (path bytes : List ℕ) (same : Bool) → HasObject objects path (λ object. IsTrue same ↔ (object ≡ bytes))
    → IfSome objects (λ told. IsTrue same ↔ (map.get told path ≡ Some bytes))
path_compared None path bytes same h = tt
path_compared (Some told) path bytes same h = compared_by (map.get told path) bytes same h

pub path_missing : (objects : Option Objects) (path bytes : List ℕ) → IsMissing objects path → IfSome objects (λ told. IsTrue false ↔ (map.get told path ≡ Some bytes))
path_missing None path bytes h = tt
path_missing (Some told) path bytes h = (λ t. cc t, λ k. let clash : None ≡ Some bytes = sym h ∙ k in cc clash)

pub object_compared : (objects : Option Objects) (digest name path bytes : List ℕ) (same : Bool) → path ≡ object_path digest name → IfSome objects (λ told. IsTrue same ↔ (map.get told path ≡ Some bytes))
    → IfSome objects (λ told. IsTrue same ↔ (object_at told digest name ≡ Some bytes))
unfolding object_at
object_compared None digest name path bytes same at h = tt
object_compared (Some told) digest name path bytes same at h = subst (λ p. IsTrue same ↔ (map.get told p ≡ Some bytes)) at h

-- ---- records

says_by : (found : Option (List ℕ)) (text : List ℕ) (same : Bool) → IsSomeAnd found (λ object. IsTrue same ↔ (object ≡ text)) → same ≡ true → record_in found ≡ record_of text
says_by None text same h is = absurd h
says_by (Some object) text same h is = ap record_of (h.0 is)

pub record_compared : (objects : Option Objects) (path text : List ℕ) (same : Bool) → HasObject objects path (λ object. IsTrue same ↔ (object ≡ text))
    → IfSome objects (λ told. same ≡ true → record_in (map.get told path) ≡ record_of text)
record_compared None path text same h = tt
record_compared (Some told) path text same h = says_by (map.get told path) text same h

empty_record : (text : List ℕ) → text ≡ [] → ◌≡◌ {A = Option (List RecordLine)} (Some []) (record_of text)
unfolding record_of
empty_record text none = sym (ap record_of none)

pub record_missing : (objects : Option Objects) (path text : List ℕ) (same : Bool) → (same ≡ true → text ≡ []) → IsMissing objects path
    → IfSome objects (λ told. same ≡ true → record_in (map.get told path) ≡ record_of text)
record_missing None path text same none h = tt
record_missing (Some told) path text same none h = λ is. ap record_in h ∙ empty_record text (none is)

pub record_puts : (before after : Option Objects) (path text : List ℕ) → Puts before path text after → Told before after (λ old new. WritesRecord old path text new)
record_puts before after path text h =
    told_so before after (λ old new. ChangesAt old path (Some text) new) (λ old new. WritesRecord old path text new) (λ old new k. (Some text, refl, k)) (told_puts before after path text h)

pub record_deleted : (before after : Option Objects) (path text : List ℕ) → text ≡ [] → Told before after (λ old new. ChangesAt old path None new) → Told before after (λ old new. WritesRecord old path text new)
record_deleted before after path text none h =
    told_so before after (λ old new. ChangesAt old path None new) (λ old new. WritesRecord old path text new) (λ old new k. (None, empty_record text none, k)) h

-- a text without bytes
pub nothing : (text : List ℕ) (empty : Bool) → empty ≡ (length text == 0) → empty ≡ true → text ≡ []
nothing [] empty is holds = refl
nothing (c ∷ text) empty is holds = let none = eqb-true (length (c ∷ text)) 0 (sym is ∙ holds) in absurd (omega (arith, none))

pub stands_where : (objects : Option Objects) (path slice text : List ℕ) (same : Bool) → same ≡ true → slice ≡ text
    → IfSome objects (λ told. same ≡ true → record_in (map.get told path) ≡ record_of slice) → IfSome objects (λ told. record_in (map.get told path) ≡ record_of text)
stands_where None path slice text same holds is h = tt
stands_where (Some told) path slice text same holds is h = h holds ∙ ap record_of is

module _ (digest path text : List ℕ) (lines : List RecordLine) (links : Links) (is : IsDigest digest) (at : path ≡ record_path digest) (reads : record_of text ≡ Some lines)
    (all : (name : List ℕ) → line_in lines name ≡ map.get links name) where
  pub record_written : (before after : Option Objects) → Told before after (λ old new. WritesRecord old path text new) → Told before after (λ old new. RecordsLinks old digest links new)
  record_written before after h =
      told_so before after (λ old new. WritesRecord old path text new) (λ old new. RecordsLinks old digest links new)
      (λ old new k. (lines, all, sets_record old new digest k.0 lines is (k.1 ∙ reads) (subst (λ p. ChangesAt old p k.0 new) at k.2))) h

  stands_so : (before : Option Objects) → IfSome before (λ told. record_in (map.get told path) ≡ record_of text) → Told before before (λ old new. RecordsLinks old digest links new)
  stands_so None h = refl
  stands_so (Some old) h =
      (lines, all, sets_record old old digest (map.get old path) lines is (h ∙ reads) (subst (λ p. ChangesAt old p (map.get old path) old) at (unchanged old path (map.get old path) refl)))

  pub record_stands_so : (before after : Option Objects) → IfSome before (λ told. record_in (map.get told path) ≡ record_of text) → after ≡ before → Told before after (λ old new. RecordsLinks old digest links new)
  record_stands_so before after h kept = subst (λ o. Told before o (λ old new. RecordsLinks old digest links new)) (sym kept) (stands_so before h)

-- ---- results

-- a fact that follows from either answer
pub either : {T E : Type 0} (r : Result T E) (P Q R : Type 0) → (P → R) → (Q → R) → OnOk r P → OnErr r Q → R
either (Ok x) P Q R f g h k = f h
either (Err e) P Q R f g h k = g k

-- What calls of the store do, where it tells its objects.
use Rattle.std.proofs.Common.{◌≡◌, ℕ, List, Option, Some, None, refl, sym, subst, IfSome}
use Rattle.std.specs.FinMap as map
use Rattle.zot_outside.specs.Objects.{ChangesAt, Copies, Deletes, Objects, Puts, Told}
use Rattle.zot_outside.proofs.ObjectLemmas.{changes-put, changes-remove}
use Rattle.zot_links.specs.Meaning.{Links, Stands, StandsWhereTold}

pub told_puts : (before after : Option Objects) (path bytes : List ℕ) → Puts before path bytes after → Told before after (λ old new. ChangesAt old path (Some bytes) new)
told_puts None after path bytes h = h
told_puts (Some old) after path bytes h = subst (λ o. Told (Some old) o (λ x y. ChangesAt x path (Some bytes) y)) (sym h) (changes-put old path bytes)

pub told_deletes : (before after : Option Objects) (path : List ℕ) → Deletes before path after → Told before after (λ old new. ChangesAt old path None new)
told_deletes None after path h = h
told_deletes (Some old) after path h = subst (λ o. Told (Some old) o (λ x y. ChangesAt x path None y)) (sym h.1) (changes-remove old path)

pub told_copies : (before after : Option Objects) (source path : List ℕ) → Copies before source path after
    → Told before after (λ old new. (bytes : List ℕ) × (map.get old source ≡ Some bytes) × ChangesAt old path (Some bytes) new)
told_copies None after source path h = h
told_copies (Some old) after source path h =
    subst (λ o. Told (Some old) o (λ x y. (bytes : List ℕ) × (map.get x source ≡ Some bytes) × ChangesAt x path (Some bytes) y)) (sym h.2) (h.0, h.1, changes-put old path h.0)

pub told_keeps : (before after : Option Objects) → after ≡ before → Told before after (λ old new. new ≡ old)
told_keeps None after h = h
told_keeps (Some old) after h = subst (λ o. Told (Some old) o (λ x y. y ≡ x)) (sym h) refl

-- a fact that follows from another
pub told_so : (before after : Option Objects) (P Q : Objects → Objects → Type 0) → ((old new : Objects) → P old new → Q old new) → Told before after P → Told before after Q
told_so None after P Q f h = h
told_so (Some old) None P Q f h = h
told_so (Some old) (Some new) P Q f h = f old new h

-- facts of two calls, one after the other
pub told_then : (before mid after : Option Objects) (P Q R : Objects → Objects → Type 0) → ((old x new : Objects) → P old x → Q x new → R old new)
    → Told before mid P → Told mid after Q → Told before after R
told_then None mid after P Q R f h k = then_none mid after h k where
  then_none : (x y : Option Objects) → x ≡ None → Told x y Q → y ≡ None
  then_none None y is kept = kept
  then_none (Some o) y is kept = cc is
told_then (Some old) None after P Q R f h k = absurd h
told_then (Some old) (Some x) None P Q R f h k = k
told_then (Some old) (Some x) (Some new) P Q R f h k = f old x new h k

-- with a fact of the objects before
pub told_with : (before after : Option Objects) (F : Objects → Type 0) (P Q : Objects → Objects → Type 0) → ((old new : Objects) → F old → P old new → Q old new)
    → IfSome before F → Told before after P → Told before after Q
told_with None after F P Q f have h = h
told_with (Some old) None F P Q f have h = h
told_with (Some old) (Some new) F P Q f have h = f old new have h

-- objects that stand for what is kept, where they are told
pub where_stands : (before after : Option Objects) (digest : List ℕ) (links : Links) (Q : Objects → Objects → Type 0) → StandsWhereTold before digest links
    → Told before after (λ old new. Stands old digest links → Q old new) → Told before after Q
where_stands before after digest links Q s h =
    told_with before after (λ old. Stands old digest links) (λ old new. Stands old digest links → Q old new) Q (λ old new stands f. f stands) s h

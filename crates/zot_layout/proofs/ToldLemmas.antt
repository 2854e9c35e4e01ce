-- What calls of the store do, where it tells its objects.
use Rattle.std.proofs.Common.{◌≡◌, List, ℕ, IfSome, Option, Some, None, option_map, Result, Ok, Err, refl, sym, ap, subst, ◌∙◌}
use Rattle.std.specs.Prelude.{OnErr, OnOk}
use Rattle.zot_outside.specs.Objects.{ChangesAt, Deletes, IsMissing, Makes, Objects, Puts, Told}
use Rattle.zot_outside.proofs.ObjectLemmas.{changes-put, changes-remove}

-- a fact of a result that follows from another
pub ok_so : {T E : Type 0} (r : Result T E) (P Q : Type 0) → (P → Q) → OnOk r P → OnOk r Q
ok_so (Ok x) P Q f h = f h
ok_so (Err e) P Q f h = h

pub err_so : {T E : Type 0} (r : Result T E) (P Q : Type 0) → (P → Q) → OnErr r P → OnErr r Q
err_so (Ok x) P Q f h = h
err_so (Err e) P Q f h = f h

pub on_err : {T E : Type 0} (r : Result T E) (P : Type 0) → P → OnErr r P
on_err (Ok x) P h = tt
on_err (Err e) P h = h

-- two changes, one after the other
pub makes_then : (before mid after : Option Objects) (first second : Objects → Objects) → Makes before first mid → Makes mid second after → Makes before (λ objects. second (first objects)) after
makes_then None mid after first second h k = k ∙ ap (option_map second) h
makes_then (Some old) mid after first second h k = k ∙ ap (option_map second) h

-- an object that was put, under a path and with bytes that are these
pub put_as : (before after : Option Objects) (path at bytes text : List ℕ) → path ≡ at → bytes ≡ text → Puts before path bytes after → Puts before at text after
put_as before after path at bytes text is same h = subst (λ p. Puts before p text after) is (subst (λ b. Puts before path b after) same h)

pub told_put : (before after : Option Objects) (path bytes : List ℕ) → Puts before path bytes after → Told before after (λ old new. ChangesAt old path (Some bytes) new)
told_put None after path bytes h = h
told_put (Some old) after path bytes h = subst (λ o. Told (Some old) o (λ x y. ChangesAt x path (Some bytes) y)) (sym h) (changes-put old path bytes)

-- an object that was deleted, or wasn't there
pub told_deleted : (before after : Option Objects) (path : List ℕ) → Deletes before path after → Told before after (λ old new. ChangesAt old path None new)
told_deleted None after path h = h
told_deleted (Some old) after path h = subst (λ o. Told (Some old) o (λ x y. ChangesAt x path None y)) (sym h.1) (changes-remove old path)

pub told_absent : (before after : Option Objects) (path : List ℕ) → IsMissing before path → after ≡ before → Told before after (λ old new. ChangesAt old path None new)
told_absent None after path gone kept = kept
told_absent (Some old) after path gone kept =
    subst (λ o. Told (Some old) o (λ x y. ChangesAt x path None y)) (sym kept) (record { here = gone; others = λ _ _. refl })

-- no object was changed
pub told_kept : (before after : Option Objects) (P : Objects → Objects → Type 0) → ((objects : Objects) → P objects objects) → after ≡ before → Told before after P
told_kept None after P f kept = kept
told_kept (Some old) after P f kept = subst (λ o. Told (Some old) o P) (sym kept) (f old)

-- a fact that follows from another
pub told_so : (before after : Option Objects) (P Q : Objects → Objects → Type 0) → ((old new : Objects) → P old new → Q old new) → Told before after P → Told before after Q
told_so None after P Q f h = h
told_so (Some old) None P Q f h = h
told_so (Some old) (Some new) P Q f h = f old new h

-- facts of two calls, one after the other
pub told_then : (before mid after : Option Objects) (P Q R : Objects → Objects → Type 0) → ((old x new : Objects) → P old x → Q x new → R old new)
    → Told before mid P → Told mid after Q → Told before after R
told_then None mid after P Q R f h k = rest mid after h k where
  rest : (x y : Option Objects) → x ≡ None → Told x y Q → y ≡ None
  rest None y is kept = kept
  rest (Some o) y is kept = cc is
told_then (Some old) None after P Q R f h k = absurd h
told_then (Some old) (Some x) None P Q R f h k = k
told_then (Some old) (Some x) (Some new) P Q R f h k = f old x new h k

-- a fact of the objects after a call, by one of those before it
pub told_on : (before after : Option Objects) (F G : Objects → Type 0) (P : Objects → Objects → Type 0) → ((old new : Objects) → F old → P old new → G new) → Told before after P → IfSome before F → IfSome after G
told_on None after F G P f kept have = subst (λ o. IfSome o G) (sym kept) tt
told_on (Some old) None F G P f h have = tt
told_on (Some old) (Some new) F G P f h have = f old new have h

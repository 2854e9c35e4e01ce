-- Facts of an object's bytes, where a store tells its objects.
use Rattle.std.proofs.Common.{◌≡◌, ℕ, ◌+◌, ◌-◌, ◌≤◌, Bool, true, false, IsTrue, ◌↔◌, List, ◌++◌, length, take, drop, arith, Option, Some, None, refl, sym, ap, ◌∙◌, IsSomeAnd}
use Rattle.std.proofs.Math.Seq.{take-add}
use Rattle.std.proofs.lemmas.Bool.{true≢false}
use Rattle.std.proofs.lemmas.List.{length-drop, length-take-le, take_all}
use Rattle.zot_outside.specs.Objects.{Objects}
use Rattle.zot_outside.specs.Whole.{HasObject, Reaches}

-- a fact that follows from another
some_follows : {X : Type 0} (found : Option X) (P Q : X → Type 0) → ((x : X) → P x → Q x) → IsSomeAnd found P → IsSomeAnd found Q
some_follows None P Q f h = h
some_follows (Some x) P Q f h = f x h

pub follows : (objects : Option Objects) (path : List ℕ) (P Q : List ℕ → Type 0) → ((bytes : List ℕ) → P bytes → Q bytes) → HasObject objects path P → HasObject objects path Q
follows None path P Q f h = tt
follows (Some told) path P Q f h = some_follows _ P Q f h

some_both : {X : Type 0} (found : Option X) (P Q : X → Type 0) → IsSomeAnd found P → IsSomeAnd found Q → IsSomeAnd found (λ x. P x × Q x)
some_both None P Q h k = h
some_both (Some x) P Q h k = (h, k)

pub both : (objects : Option Objects) (path : List ℕ) (P Q : List ℕ → Type 0) → HasObject objects path P → HasObject objects path Q → HasObject objects path (λ bytes. P bytes × Q bytes)
both None path P Q h k = tt
both (Some told) path P Q h k = some_both _ P Q h k

-- an object that is as long as these bytes reaches as far as a piece of them
pub reaches_piece : (objects : Option Objects) (path bytes : List ℕ) (at n : ℕ) → at + n ≤ length bytes → HasObject objects path (λ object. length object ≡ length bytes)
    → Reaches objects path (at + length (take (at + n - at) (drop at bytes)))
reaches_piece objects path bytes at n within = follows objects path (λ object. length object ≡ length bytes) (λ object. at + length (take (at + n - at) (drop at bytes)) ≤ length object) (λ object size.
    let k : at + n - at ≡ n = omega arith in
    let left = length-drop at bytes in
    let part = length-take-le n (drop at bytes) (omega arith) in
    omega (arith, size, ap (λ m. length (take m (drop at bytes))) k, part))

-- an object that has another piece isn't these bytes
pub differs : (objects : Option Objects) (path bytes : List ℕ) (at n : ℕ) (same : Bool) → same ≡ false → at + n ≤ length bytes
    → HasObject objects path (λ object. IsTrue same ↔ (take (length (take (at + n - at) (drop at bytes))) (drop at object) ≡ take (at + n - at) (drop at bytes)))
    → HasObject objects path (λ object. IsTrue false ↔ (object ≡ bytes))
differs objects path bytes at n same is within = follows objects path _ _ (λ object h.
    let k : at + n - at ≡ n = omega arith in
    let left = length-drop at bytes in
    let part : length (take (at + n - at) (drop at bytes)) ≡ at + n - at = length-take-le (at + n - at) (drop at bytes) (omega arith) in
    (λ t. cc t, λ whole. absurd (true≢false (sym (h.1 (ap (λ m. take m (drop at object)) part ∙ ap (λ o. take (at + n - at) (drop at o)) whole)) ∙ is))))

-- the first bytes and the next piece are alike
pub agrees_further : (objects : Option Objects) (path bytes : List ℕ) (at n : ℕ) (same : Bool) → same ≡ true → at + n ≤ length bytes
    → HasObject objects path (λ object. IsTrue same ↔ (take (length (take (at + n - at) (drop at bytes))) (drop at object) ≡ take (at + n - at) (drop at bytes)))
    → HasObject objects path (λ object. take at object ≡ take at bytes) → HasObject objects path (λ object. take (at + n) object ≡ take (at + n) bytes)
agrees_further objects path bytes at n same is within h before = follows objects path _ _ (λ object parts.
    let k : at + n - at ≡ n = omega arith in
    let left = length-drop at bytes in
    let part : length (take (at + n - at) (drop at bytes)) ≡ at + n - at = length-take-le (at + n - at) (drop at bytes) (omega arith) in
    let next : take n (drop at object) ≡ take n (drop at bytes) =
    ap (λ m. take m (drop at object)) (sym k) ∙ ap (λ m. take m (drop at object)) (sym part) ∙ parts.0.0 is ∙ ap (λ m. take m (drop at bytes)) k in
    take-add at n object ∙ ap (λ t. t ++ take n (drop at object)) parts.1 ∙ ap (λ t. take at bytes ++ t) next ∙ sym (take-add at n bytes))
    (both objects path _ _ h before)

-- an object that is as long as these bytes and agrees as far is they
pub is_whole : (objects : Option Objects) (path bytes : List ℕ) (at : ℕ) → length bytes ≤ at → HasObject objects path (λ object. length object ≡ length bytes)
    → HasObject objects path (λ object. take at object ≡ take at bytes) → HasObject objects path (λ object. IsTrue true ↔ (object ≡ bytes))
is_whole objects path bytes at reached size alike = follows objects path _ _ (λ object h.
    let long : length object ≡ length bytes = h.0 in
    (λ t. sym (take_all at object (omega (arith, long))) ∙ h.1 ∙ take_all at bytes reached, λ is. refl))
    (both objects path _ _ size alike)

-- what was read is compared with a piece
pub compared : (objects : Option Objects) (path read piece : List ℕ) (at n : ℕ) (same : Bool) → n ≡ length piece → HasObject objects path (λ object. read ≡ take n (drop at object)) → IsTrue same ↔ (read ≡ piece)
    → HasObject objects path (λ object. IsTrue same ↔ (take (length piece) (drop at object) ≡ piece))
compared objects path read piece at n same long found h = follows objects path _ _ (λ object is.
    let read_is : read ≡ take (length piece) (drop at object) = is ∙ ap (λ m. take m (drop at object)) long in
    (λ t. sym read_is ∙ h.0 t, λ k. h.1 (read_is ∙ k))) found

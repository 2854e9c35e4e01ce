-- Parts that are taken back one list after another, and the room for them.
use Rattle.std.proofs.Common.{◌≡◌, ℕ, ◌+◌, suc, List, [], ◌∷◌, ◌++◌, length, Option, Some, None, option_map, arith, refl, sym, ap, subst, ◌∙◌}
use Rattle.std.proofs.lemmas.List.{append_assoc, append-nil}
use Rattle.zot_host.specs.Parts.{TakesBack, UsesRoom}

-- ---- parts

-- no part was taken back
pub takes_none : {S : Type 0} (kept : Option (List S)) → TakesBack kept [] kept
takes_none None = refl
takes_none (Some parts) = ap Some (sym (append-nil parts))

-- some were taken back, and then others
pub takes_both : {S : Type 0} (before mid after : Option (List S)) (first second : List S) → TakesBack before first mid → TakesBack mid second after → TakesBack before (first ++ second) after
takes_both None mid after first second one two = two ∙ ap (λ m. option_map (λ l. l ++ second) m) one
takes_both (Some kept) mid after first second one two = two ∙ ap (λ m. option_map (λ l. l ++ second) m) one ∙ ap Some (append_assoc kept first second)

-- ---- room

-- no room was used
pub uses_none : (room : ℕ → Type 0) → UsesRoom room 0 room
uses_none room n has =
    let same : n + 0 ≡ n = omega arith in
    subst room same has

-- some room was used, and then more
pub uses_both : (before mid after : ℕ → Type 0) (first second : ℕ) → UsesRoom before first mid → UsesRoom mid second after → UsesRoom before (first + second) after
uses_both before mid after first second one two n has =
    let same : n + (first + second) ≡ (n + second) + first = omega arith in
    two n (one (n + second) (subst before same has))

-- ---- the parts that are left

-- the next part and those behind it are left
pub one_left : {X : Type 0} (left more : List X) (next : X) → left ≡ next ∷ more → length left ≡ length more + 1
one_left left more next first =
    let long : length left ≡ suc (length more) = ap length first in
    omega (arith, long)

-- one more was given
pub given_more : {X : Type 0} (given all : List X) (next : X) (left more : List X) → given ++ left ≡ all → left ≡ next ∷ more → (given ++ next ∷ []) ++ more ≡ all
given_more given all next left more h first = append_assoc given (next ∷ []) more ∙ ap (λ l. given ++ l) (sym first) ∙ h

none_left : {X : Type 0} (left : List X) → 0 ≡ length left → left ≡ []
none_left [] h = refl
none_left (next ∷ left) h = cc h

-- all were given
pub given_all : {X : Type 0} (given all left : List X) (n : ℕ) → given ++ left ≡ all → n ≡ length left → n ≡ 0 → given ≡ all
given_all given all left n h long none = sym (append-nil given) ∙ ap (λ l. given ++ l) (sym (none_left left (sym none ∙ long))) ∙ h

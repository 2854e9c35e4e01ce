-- Walks through the paths of a store.
use Rattle.std.proofs.Common.{◌≡◌, ℕ, ◌+◌, ◌<◌, ◌≤◌, ◌^◌, List, length, Option, Some, None, IfSome, IsNone, refl, sym, ap, ◌∙◌, subst, arith, Bool, false, IsTrue, ◌↔◌}
use Rattle.std.proofs.lemmas.Bool.{true≢false}
use Rattle.std.specs.FinMap as map
use Rattle.std.specs.declared.cmp.Ordering.TheVariants.{Less}
use Rattle.zot_outside.proofs.ListingLemmas.{fewer_after, length-paths_after, paths_after-next}
use Rattle.zot_outside.proofs.ObjectLemmas.{untold}
use Rattle.zot_outside.specs.Objects.{Follows, Keeps, Objects, path_cmp, paths_after}

-- a walk begins with room
pub room_at_first : (objects : Option Objects) (last : List ℕ) → IfSome objects (λ told. map.len told < 2 ^ 63) → IfSome objects (λ told. 0 + length (paths_after told last) < 2 ^ 63)
room_at_first None last h = tt
room_at_first (Some told) last h = omega (arith, length-paths_after told last, h)

-- and has as much after each path that it finds
pub room_after : (before after : Option Objects) (last path : List ℕ) (asked : ℕ) → Follows before last (Some path) → Keeps before after → IfSome before (λ told. asked + length (paths_after told last) < 2 ^ 63)
    → IfSome after (λ told. (asked + 1) + length (paths_after told path) < 2 ^ 63)
room_after None after last path asked next kept h = subst (λ o. IfSome o (λ told. (asked + 1) + length (paths_after told path) < 2 ^ 63)) (sym kept) tt
room_after (Some told) after last path asked next kept h =
    subst (λ o. IfSome o (λ now. (asked + 1) + length (paths_after now path) < 2 ^ 63)) (sym kept) (omega (arith, h, ap length (paths_after-next told last path next)))

-- a store that answers a path which isn't greater doesn't tell its objects
pub not_greater : (before after : Option Objects) (last path : List ℕ) (less : Bool) → less ≡ false → IsTrue less ↔ (path_cmp last path ≡ Less) → Follows before last (Some path) → Keeps before after → IsNone after
not_greater before after last path less is said next kept =
    untold before after (λ told known. true≢false (sym (said.1 (subst (λ o. Follows o last (Some path)) known next).above) ∙ is)) kept

-- nor does one that was asked too often
pub asked_out : (objects : Option Objects) (last : List ℕ) (asked : ℕ) → 2 ^ 63 ≤ asked → IfSome objects (λ told. asked + length (paths_after told last) < 2 ^ 63) → IsNone objects
asked_out None last asked many h = refl
asked_out (Some told) last asked many h = absurd (omega (arith, many, h))

-- a walk that passes over paths has as much
pub room_skipped : (objects : Option Objects) (last later : List ℕ) (asked : ℕ) → path_cmp last later ≡ Less → IfSome objects (λ told. asked + length (paths_after told last) < 2 ^ 63) → IfSome objects (λ told. asked + length (paths_after told later) < 2 ^ 63)
room_skipped None last later asked h room = tt
room_skipped (Some told) last later asked h room = omega (arith, fewer_after told last later h, room)

-- What a store's calls make of its objects, at the path of the call and at every other.
use Rattle.std.proofs.Common.{◌≡◌, ℕ, suc, arith, List, [], ◌∷◌, ◌++◌, Contains, Option, Some, None, refl, sym, ap, ◌∙◌, subst, IfSome, IsNone, IsSome, IsSomeAnd, is_some}
use Rattle.std.specs.FinMap as map
use Rattle.zot_maps.proofs.Maps.{byte_order, get_elsewhere, get_here, removed_elsewhere, removed_here, same_by_key}
use Rattle.zot_outside.specs.Objects.{ChangesAlong, ChangesAt, Copies, IsMissing, Keeps, Objects, with_object}

-- an object that was set
pub changes-put : (objects : Objects) (path bytes : List ℕ) → ChangesAt objects path (Some bytes) (with_object objects path bytes)
changes-put objects path bytes = record { here = get_here byte_order objects path bytes; others = get_elsewhere byte_order objects path bytes }

-- an object that was removed
pub changes-remove : (objects : Objects) (path : List ℕ) → ChangesAt objects path None (map.remove objects path)
changes-remove objects path = record { here = removed_here byte_order objects path; others = removed_elsewhere byte_order objects path }

-- what a call at one path leaves is determined
pub one_change : (old one other : Objects) (path : List ℕ) (object : Option (List ℕ)) → ChangesAt old path object one → ChangesAt old path object other → one ≡ other
one_change old one other path object h k = same_by_key byte_order one other path (h.here ∙ sym k.here) (λ q apart. h.others q apart ∙ sym (k.others q apart))

-- an object that was there was copied to a path
pub changes-copy : (objects : Objects) (source path : List ℕ) (after : Option Objects) → Copies (Some objects) source path after
    → IsSomeAnd (map.get objects source) (λ bytes. IsSomeAnd after (ChangesAt objects path (Some bytes)))
changes-copy objects source path after h =
    let bytes = h.0 in
    subst (λ o. IsSomeAnd o (λ b. IsSomeAnd after (ChangesAt objects path (Some b)))) (sym h.1) (subst (λ o. IsSomeAnd o (ChangesAt objects path (Some bytes))) (sym h.2) (changes-put objects path bytes))

-- a store whose answer can't be true of any objects doesn't tell them, before the call and after it
pub untold : (before after : Option Objects) → ((told : Objects) → before ≡ Some told → ⊥) → Keeps before after → IsNone after
untold None after h kept = ap is_some kept
untold (Some told) after h kept = absurd (h told refl)

-- the same where an object that is there was answered to be missing
pub untold_missing : (before after : Option Objects) (path : List ℕ) → IfSome before (λ told. IsSome (map.get told path)) → IsMissing before path → Keeps before after → IsNone after
untold_missing None after path there gone kept = ap is_some kept
untold_missing (Some told) after path there gone kept = cc (sym there ∙ ap is_some gone)

contains_first : (path : List ℕ) (paths : List (List ℕ)) (other : List ℕ) → other ≡ path → Contains (path ∷ paths) other
contains_first path paths other is = (0, omega arith, sym is)

contains_later : (path : List ℕ) (paths : List (List ℕ)) (other : List ℕ) → Contains paths other → Contains (path ∷ paths) other
contains_later path paths other h = (suc h.0, omega (arith, h.1), h.2)

-- calls leave the paths that they weren't made at
pub left_along : (old new : Objects) (paths : List (List ℕ)) (other : List ℕ) → ChangesAlong old paths new → (Contains paths other → ⊥) → map.get new other ≡ map.get old other
left_along old new [] other is far = ap (λ o. map.get o other) is
left_along old new (path ∷ paths) other h far =
    left_along h.0 new paths other h.3 (λ later. far (contains_later path paths other later)) ∙ h.2.others other (λ is. far (contains_first path paths other is))

pub joined_along : (old mid new : Objects) (first second : List (List ℕ)) → ChangesAlong old first mid → ChangesAlong mid second new → ChangesAlong old (first ++ second) new
joined_along old mid new [] second is k = subst (λ o. ChangesAlong o second new) is k
joined_along old mid new (path ∷ first) second h k = (h.0, h.1, h.2, joined_along h.0 mid new first second h.3 k)

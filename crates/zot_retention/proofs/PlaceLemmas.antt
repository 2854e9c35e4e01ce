-- The first element of a list for which something holds, and lists that grow by one.
use Rattle.std.proofs.Common.{◌≡◌, ◌<◌, ◌+◌, ℕ, List, [], ◌∷◌, ◌++◌, take, length, get_or, slice_get, refl, sym, ap, subst, ◌∙◌}
use Rattle.std.specs.List.{All}
use Rattle.std.proofs.lemmas.List.{take_more}
use Rattle.std.proofs.lemmas.List.Elements.{All-more}
use Rattle.std.proofs.lemmas.Option.{slice_get_read}
use Rattle.zot_retention.specs.Policies.{IsFirst}

-- an element of which P holds is the first where Q holds of all before it
pub first_at : {X : Type 0} (Q P : X → Type 0) (xs : List X) (place at : ℕ) (x : X) → at ≡ place → place < length xs → x ≡ get_or xs place x →
    P x → All Q (take place xs) → IsFirst Q P xs at
first_at Q P xs place at x same within is holds earlier = record {
  item = x;
  stands = ap (slice_get xs) same ∙ slice_get_read xs (length xs) place x refl within is;
  holds = holds;
  earlier = subst (λ n. All Q (take n xs)) (sym same) earlier;
}

-- the elements up to a place, and the one there
pub one_taken : {X : Type 0} (xs : List X) (i : ℕ) (x : X) → i < length xs → x ≡ get_or xs i x → take (i + 1) xs ≡ take i xs ++ (x ∷ [])
one_taken xs i x within is = take_more xs i x within ∙ ap (λ y. take i xs ++ (y ∷ [])) (sym is)

-- what holds of each of them holds of one more
pub one_more : {X : Type 0} (P : X → Type 0) (xs : List X) (i : ℕ) (x : X) → i < length xs → x ≡ get_or xs i x → P x → All P (take i xs) → All P (take (i + 1) xs)
one_more P xs i x within is here all = All-more P xs i x within all (subst (λ y. P y) is here)

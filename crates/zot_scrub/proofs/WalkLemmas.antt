-- What is found on a walk over a list, one element further.
use Rattle.std.proofs.Common.{◌≡◌, ◌<◌, ◌+◌, ℕ, List, [], ◌∷◌, ◌++◌, take, length, get_or, ap, sym, ◌∙◌}
use Rattle.std.specs.List.{flat_map}
use Rattle.std.proofs.lemmas.List.{flat_map_more, take_more}

pub found_further : {X Y : Type 0} (f : X → List Y) (before : List Y) (xs : List X) (i : ℕ) (x : X) (now next : List Y) → i < length xs → x ≡ get_or xs i x →
    now ≡ before ++ flat_map f (take i xs) → next ≡ now ++ f x → next ≡ before ++ flat_map f (take (i + 1) xs)
found_further f before xs i x now next within is so_far step =
    step
    ∙ ap (λ found. found ++ f x) so_far
    ∙ flat_map_more f before (take i xs) x
    ∙ ap (λ some. before ++ flat_map f some) (ap (λ y. take i xs ++ y ∷ []) is ∙ sym (take_more xs i x within))

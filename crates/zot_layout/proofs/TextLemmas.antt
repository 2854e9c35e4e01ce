-- Descriptors that are added one after another: what each manifest gives.
use Rattle.std.proofs.Common.{◌≡◌, ℕ, ◌+◌, ◌<◌, ◌≤◌, List, ◌++◌, length, get_or, drop, append_assoc, append-nil, sym, ap, ◌∙◌}
use Rattle.std.specs.List.{flat_map}
use Rattle.std.proofs.lemmas.List.{drop_all}
use Rattle.zot_media.proofs.EachLemmas.{drop_at}

-- one element more
pub walk-more : {A D : Type 0} (gives : A → List D) (xs : List A) (at : ℕ) (x : A) (all done now : List D) → all ≡ done ++ flat_map gives (drop at xs) → at < length xs → x ≡ get_or xs at x
    → now ≡ done ++ gives x → all ≡ now ++ flat_map gives (drop (at + 1) xs)
walk-more gives xs at x all done now h within is put =
    h ∙ ap (λ left. done ++ flat_map gives left) (drop_at xs at x within is) ∙ rw put (sym (append_assoc done (gives x) (flat_map gives (drop (at + 1) xs))))

-- no element is left
pub walk-all : {A D : Type 0} (gives : A → List D) (xs : List A) (at : ℕ) (all done : List D) → all ≡ done ++ flat_map gives (drop at xs) → length xs ≤ at → done ≡ all
walk-all gives xs at all done h past = sym (h ∙ ap (λ left. done ++ flat_map gives left) (drop_all at xs past) ∙ append-nil done)

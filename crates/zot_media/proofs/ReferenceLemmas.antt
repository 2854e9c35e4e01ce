-- The references that have to be there.
use Rattle.std.proofs.Common.{◌≡◌, ℕ, ◌+◌, ◌<◌, ◌≤◌, true, false, not, List, [], ◌∷◌, ◌++◌, length, get_or, drop, map, append_assoc, append-nil, refl, sym, ap, ◌∙◌}
use Rattle.std.specs.List.{filter}
use Rattle.std.proofs.lemmas.List.{drop_all}
use Rattle.zot_media.specs.declared.descriptor.Descriptor.{Descriptor}
use Rattle.zot_media.proofs.EachLemmas.{drop_at}

-- the digests of the layers that aren't external
abbrev pub digests_of : List Descriptor → List (List ℕ)
digests_of layers = map (λ descriptor. descriptor.digest) (filter (λ layer. not layer.external) layers)

-- one layer more, which isn't external
pub digests-more : (layers : List Descriptor) (at : ℕ) (layer : Descriptor) (all digests now : List (List ℕ)) → all ≡ digests ++ digests_of (drop at layers) → at < length layers
    → layer ≡ get_or layers at layer → layer.external ≡ false → now ≡ digests ++ layer.digest ∷ [] → all ≡ now ++ digests_of (drop (at + 1) layers)
digests-more layers at layer all digests now h within is e put =
    h ∙ ap (λ left. digests ++ digests_of left) (drop_at layers at layer within is) ∙ rw (e, put) (sym (append_assoc digests (layer.digest ∷ []) (digests_of (drop (at + 1) layers))))

-- one layer more, which is external
pub digests-same : (layers : List Descriptor) (at : ℕ) (layer : Descriptor) (all digests now : List (List ℕ)) → all ≡ digests ++ digests_of (drop at layers) → at < length layers
    → layer ≡ get_or layers at layer → layer.external ≡ true → now ≡ digests → all ≡ now ++ digests_of (drop (at + 1) layers)
digests-same layers at layer all digests now h within is e same =
    h ∙ ap (λ left. digests ++ digests_of left) (drop_at layers at layer within is) ∙ rw (e, same) refl

-- no layer is left
pub digests-all : (layers : List Descriptor) (at : ℕ) (all digests : List (List ℕ)) → all ≡ digests ++ digests_of (drop at layers) → length layers ≤ at → digests ≡ all
digests-all layers at all digests h past = sym (h ∙ ap (λ left. digests ++ digests_of left) (drop_all at layers past) ∙ append-nil digests)

-- What a check finds, step by step.
use Rattle.std.proofs.Common.{◌≡◌, ℕ, suc, ◌+◌, ◌<◌, Bool, true, false, List, ◌∷◌, length, get_or, drop, is_some, Option, Some, refl, sym, ap, ◌∙◌, add-one, drop-cons, if◌then◌else◌}
use Rattle.sha2.specs.Sha256.{sha256}
use Rattle.zot_manifests.specs.Check.{check_needed, check_of, check_read}
use Rattle.zot_media.specs.Manifest.{reading}
use Rattle.zot_media.specs.References.{needed}
use Rattle.zot_media.specs.declared.media.Media.{Media}
use Rattle.zot_media.specs.declared.reading.Reading.{Reading}
use Rattle.zot_media.specs.declared.reference.Reference.{Reference}
use Rattle.zot_model.specs.Manifests.{first_missing}
use Rattle.zot_model.specs.PlainManifests.{is_other}

not_taken : {A : Type 0} (b : Bool) (x y : A) → b ≡ false → (if b then x else y) ≡ y
not_taken true x y h = cc h
not_taken false x y h = refl

taken : {A : Type 0} (b : Bool) (x y : A) → b ≡ true → (if b then x else y) ≡ x
taken true x y h = refl
taken false x y h = cc h

module _ (is_there : List ℕ → Bool) (digests : List (List ℕ)) (i : ℕ) (x : List ℕ) (below : i < length digests) (is : x ≡ get_or digests i x) where
  cut : drop i digests ≡ x ∷ drop (suc i) digests
  cut = drop-cons digests i x below ∙ ap (λ y. y ∷ drop (suc i) digests) (sym is)

  -- the first of those that are left isn't there
  pub missing_here : is_there x ≡ false → first_missing is_there (drop i digests) ≡ Some x
  missing_here absent = ap (first_missing is_there) cut ∙ not_taken (is_there x) (first_missing is_there (drop (suc i) digests)) (Some x) absent

  -- or it is
  pub missing_later : is_there x ≡ true → first_missing is_there (drop (i + 1) digests) ≡ first_missing is_there (drop i digests)
  missing_later there = ap (λ n. first_missing is_there (drop n digests)) (add-one i) ∙ sym (ap (first_missing is_there) cut ∙ taken (is_there x) (first_missing is_there (drop (suc i) digests)) (Some x) there)

-- a manifest that was read, and whose reference is no other digest
pub check_at : (sizes : List ℕ → Option ℕ) (reference : Reference) (media : Media) (body : List ℕ) (read : Reading) (found : Option (List ℕ)) → reading media body ≡ Some read → is_other reference (sha256 body) ≡ false
    → first_missing (λ digest. is_some (sizes digest)) (needed read) ≡ found → check_of sizes reference (Some media) body ≡ check_needed reference media body read found
check_at sizes reference media body read found is own missing =
    ap (check_read sizes reference media body) is ∙ not_taken (is_other reference (sha256 body)) _ _ own ∙ ap (check_needed reference media body read) missing

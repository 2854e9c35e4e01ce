-- What listings show of a folder.
use Rattle.std.proofs.Common.{◌≡◌, ◌≢◌, ℕ, false, List, [], ◌∷◌, ◌++◌, Option, Some, None, sym, ap, ◌∙◌, subst, Bor, IfSome, IsSome, MatchOption, map as each, String, string_bytes}
use Rattle.std.proofs.lemmas.Bool.{false_from_ne_true}
use Rattle.std.proofs.lemmas.List.{append_assoc}
use Rattle.std.proofs.lemmas.List.Elements.{All-contains, All-contains_itself}
use Rattle.std.proofs.lemmas.List.Sorted.{All-permutation, Contains-permutation, IsPermutation-map}
use Rattle.std.specs.FinMap as map
use Rattle.std.specs.List.Sorted.{IsPermutation}
use Rattle.zot_folder.proofs.PrefixLemmas.{prefix_rest, prefix_same}
use Rattle.zot_folder.proofs.SearchLemmas.{front_of, nothing_below}
use Rattle.zot_folder.proofs.TreeLemmas.{objects_named}
use Rattle.zot_folder.specs.Listing.{IsFilePath, front}
use Rattle.zot_folder.specs.Paths.{is_object_path}
use Rattle.zot_folder.specs.Trees.{Files, objects_in, objects_of}
use Rattle.zot_folder.specs.Walks.{IsListing, is_prefix}
use Rattle.zot_outside.specs.Objects.{Objects}

-- a listing in another order
permuted : (objects : Objects) (folder : List ℕ) (xs ys : List (List ℕ)) → IsPermutation xs ys → IsListing objects folder xs → IsListing objects folder ys
permuted objects folder xs ys order h = record {
  files = λ path listed. All-contains (λ p. IsFilePath p → IsSome (map.get objects p)) ys path (All-permutation (λ p. IsFilePath p → IsSome (map.get objects p)) xs ys order (λ k d inside. h.files _ (All-contains_itself xs k d inside))) listed;
  shows = λ path held below. let entry = h.shows path held below in (entry.0, Contains-permutation xs ys entry.0 order entry.1, entry.2);
}

pub sorted_lists : {Z : Type 0} (objects : Objects) (folder : List ℕ) (given taken now : List (String Z)) → taken ≡ given → IsPermutation taken now → IsListing objects folder (each string_bytes given) → IsListing objects folder (each string_bytes now)
sorted_lists objects folder given taken now is order h =
    permuted objects folder (each string_bytes given) (each string_bytes now) (IsPermutation-map string_bytes given now (subst (λ t. IsPermutation t now) is order)) h

-- a folder in which there can be no object has an empty listing
pub lists_nothing : (files : Option Files) (folder : List ℕ) (given paths : List (List ℕ)) → given ≡ [] → folder ≢ [] → is_object_path folder ≡ false
    → ((objects : Objects) → IsListing objects folder given → IsListing objects folder paths) → IfSome (objects_of files) (λ objects. IsListing objects folder paths)
lists_nothing None folder given paths empty inside hidden made = tt
lists_nothing (Some told) folder given paths empty inside hidden made =
    made (objects_in told) (subst (IsListing (objects_in told) folder) (sym empty) (nothing_below (objects_in told) folder (objects_named told) inside hidden))

-- whether a path lies below a folder, by what stands behind the folder's own
pub below_found : (path folder : List ℕ) (r : Option (Bor (List ℕ))) → folder ≢ [] → MatchOption r ((rest : List ℕ) → path ≢ folder ++ rest) (λ rest. path ≡ folder ++ rest.now)
    → MatchOption r (is_prefix (front folder) path ≡ false) (λ rest. is_prefix (front folder) path ≡ is_prefix (47 ∷ []) rest.now)
below_found path folder None inside other =
    false_from_ne_true (is_prefix (front folder) path) (λ below.
    let rest = prefix_rest (front folder) path below in
    other (47 ∷ rest.0) (rest.1 ∙ ap (λ f. f ++ rest.0) (front_of folder inside) ∙ append_assoc folder (47 ∷ []) rest.0))
below_found path folder (Some rest) inside is = ap (λ f. is_prefix f path) (front_of folder inside) ∙ ap (is_prefix (folder ++ 47 ∷ [])) is ∙ prefix_same folder (47 ∷ []) rest.now

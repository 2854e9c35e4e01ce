-- Lists read element by element: what was read so far, before what is read of the others, is what is read of all.
use Rattle.std.proofs.Common.{◌≡◌, ℕ, ◌+◌, ◌<◌, ◌≤◌, suc, List, [], ◌∷◌, ◌++◌, length, get_or, drop, map, Option, Some, None, option_map, append_assoc, append-nil, refl, sym, ap, ◌∙◌, add-one}
use Rattle.std.proofs.Math.Seq.{drop-cons}
use Rattle.std.proofs.lemmas.List.{drop_all}
use Rattle.zot_media.specs.Fields.{each}

-- what is read of all elements, where these were read first and those are left
abbrev pub after : {A B : Type 0} → (A → Option B) → List B → List A → Option (List B)
after reads done left = option_map (λ others. done ++ others) (each reads left)

-- one element more is read
pub after-some : {A B : Type 0} (reads : A → Option B) (done : List B) (x : A) (left : List A) (y : B) → reads x ≡ Some y → after reads done (x ∷ left) ≡ after reads (done ++ y ∷ []) left
after-some reads done x left y h = rw h (moved done y (each reads left)) where
  moved : {B : Type 0} (done : List B) (y : B) (others : Option (List B)) → option_map (λ more. done ++ more) (option_map (λ more. y ∷ more) others) ≡ option_map (λ more. (done ++ y ∷ []) ++ more) others
  moved done y None = refl
  moved done y (Some more) = ap Some (sym (append_assoc done (y ∷ []) more))

-- an element isn't read
pub after-none : {A B : Type 0} (reads : A → Option B) (done : List B) (x : A) (left : List A) → reads x ≡ None → after reads done (x ∷ left) ≡ None
after-none reads done x left h = rw h refl

-- no element is left
pub after-all : {A B : Type 0} (reads : A → Option B) (done : List B) → after reads done [] ≡ Some done
after-all reads done = ap Some (append-nil done)

-- no element was read yet
pub after-start : {A B : Type 0} (reads : A → Option B) (left : List A) → each reads left ≡ after reads [] left
after-start reads left = unmoved (each reads left) where
  unmoved : {B : Type 0} (found : Option (List B)) → found ≡ option_map (λ others. [] ++ others) found
  unmoved None = refl
  unmoved (Some all) = refl

-- the elements from a place on
pub drop_at : {A : Type 0} (xs : List A) (at : ℕ) (x : A) → at < length xs → x ≡ get_or xs at x → drop at xs ≡ x ∷ drop (at + 1) xs
drop_at xs at x within is = drop-cons xs at x within ∙ ap (λ y. y ∷ drop (suc at) xs) (sym is) ∙ ap (λ n. x ∷ drop n xs) (sym (add-one at))

-- the same of what is read
pub read_more : {A B X : Type 0} (reads : A → Option B) (shows : X → A) (xs : List X) (at : ℕ) (x : X) (done now : List B) (y : B) (all : Option (List B)) → all ≡ after reads done (map shows (drop at xs)) → at < length xs → x ≡ get_or xs at x
    → reads (shows x) ≡ Some y → now ≡ done ++ y ∷ [] → all ≡ after reads now (map shows (drop (at + 1) xs))
read_more reads shows xs at x done now y all h within is e put =
    h ∙ ap (λ left. after reads done (map shows left)) (drop_at xs at x within is) ∙ after-some reads done (shows x) (map shows (drop (at + 1) xs)) y e ∙ ap (λ so. after reads so (map shows (drop (at + 1) xs))) (sym put)

pub read_none : {A B X : Type 0} (reads : A → Option B) (shows : X → A) (xs : List X) (at : ℕ) (x : X) (done : List B) (all : Option (List B)) → all ≡ after reads done (map shows (drop at xs)) → at < length xs → x ≡ get_or xs at x
    → reads (shows x) ≡ None → all ≡ None
read_none reads shows xs at x done all h within is e =
    h ∙ ap (λ left. after reads done (map shows left)) (drop_at xs at x within is) ∙ after-none reads done (shows x) (map shows (drop (at + 1) xs)) e

pub read_all : {A B X : Type 0} (reads : A → Option B) (shows : X → A) (xs : List X) (at : ℕ) (done : List B) (all : Option (List B)) → all ≡ after reads done (map shows (drop at xs)) → length xs ≤ at → all ≡ Some done
read_all reads shows xs at done all h past = h ∙ ap (λ left. after reads done (map shows left)) (drop_all at xs past) ∙ after-all reads done

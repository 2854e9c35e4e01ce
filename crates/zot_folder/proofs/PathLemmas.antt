-- Which paths can have no object.
use Rattle.std.proofs.Common.{◌≡◌, ◌≢◌, ◌⊎◌, inl, inr, All, ℕ, Bool, true, false, cond, eqb, not, ◌&&◌, ◌==◌, nat_lt, List, [], ◌∷◌, ◌++◌, length, drop, refl, sym, ap, ◌∙◌, String, string_bytes, Result, Ok, Err, IfOk}
use Rattle.std.proofs.lemmas.Bool.{and_parts}
use Rattle.std.specs.List.{list_all, list_any, onto_first, slice_split}
use Rattle.zot_folder.specs.Paths.{IsHiddenBeside, is_object_path, is_part}

-- the parts of a path
abbrev parts : List ℕ → List (List ℕ)
parts path = slice_split (λ b. eqb b 47) path

cut_short : (a c d : Bool) → (a && false && c && d) ≡ false
cut_short true c d = refl
cut_short false c d = refl

-- a part that begins with a dot is none of an object's path
dotted : (rest : List (List ℕ)) → list_all is_part (onto_first 46 rest) ≡ false
dotted [] = refl
dotted (part ∷ rest) = cut_short (nat_lt 0 (length (46 ∷ part))) (not (list_any (λ b. b == 0) (46 ∷ part))) (list_all is_part rest)

-- nor is any path whose later parts aren't all parts of one
later : (first : List ℕ) (rest : List (List ℕ)) → list_all is_part rest ≡ false → list_all is_part (first ∷ rest) ≡ false
later first rest h = elim (is_part first) as (λ b. (b && list_all is_part rest) ≡ false) [ true ↦ h | false ↦ refl ]

-- the parts after the first
abbrev tail : List (List ℕ) → List (List ℕ)
tail ps = drop 1 ps

tail_onto : (b : ℕ) (ps : List (List ℕ)) → list_all is_part (tail ps) ≡ false → list_all is_part (tail (onto_first b ps)) ≡ false
tail_onto b [] h = h
tail_onto b (p ∷ ps) h = h

whole_from_tail : (ps : List (List ℕ)) → list_all is_part (tail ps) ≡ false → list_all is_part ps ≡ false
whole_from_tail [] h = h
whole_from_tail (p ∷ ps) h = later p ps h

-- a name in a folder that begins with a dot is among the later parts
hidden_tail : (front rest : List ℕ) → list_all is_part (tail (parts (front ++ 47 ∷ 46 ∷ rest))) ≡ false
hidden_tail [] rest = dotted (parts rest)
hidden_tail (b ∷ front) rest =
    elim (eqb b 47) as (λ e. list_all is_part (tail (cond e ([] ∷ parts (front ++ 47 ∷ 46 ∷ rest)) (onto_first b (parts (front ++ 47 ∷ 46 ∷ rest))))) ≡ false) [
      | true ↦ whole_from_tail (parts (front ++ 47 ∷ 46 ∷ rest)) (hidden_tail front rest)
      | false ↦ tail_onto b (parts (front ++ 47 ∷ 46 ∷ rest)) (hidden_tail front rest)
    ]

-- a path whose last part begins with a dot can have no object
hidden_below : (folder name : List ℕ) → is_object_path (folder ++ 47 ∷ 46 ∷ name) ≡ false
hidden_below folder name = whole_from_tail (parts (folder ++ 47 ∷ 46 ∷ name)) (hidden_tail folder name)

pub hidden_in_folder : {Z E : Type 0} (made : Result (String Z) E) (folder name : List ℕ) → IfOk made (λ path. string_bytes path ≡ folder ++ 47 ∷ 46 ∷ name) → IfOk made (λ path. is_object_path (string_bytes path) ≡ false)
hidden_in_folder (Ok path) folder name is = ap is_object_path is ∙ hidden_below folder name
hidden_in_folder (Err error) folder name is = tt

module _ {Z E : Type 0} where
  -- a name with a dot before it, in the folder of a path
  pub beside_in_folder : (made : Result (String Z) E) (path folder last name : List ℕ) → (path ≡ folder ++ 47 ∷ last) × All (λ b. b ≢ 47) last → IfOk made (λ hidden. string_bytes hidden ≡ folder ++ 47 ∷ 46 ∷ name)
      → IfOk made (λ hidden. IsHiddenBeside path (string_bytes hidden))
  beside_in_folder (Ok hidden) path folder last name cut is = (last, name, cut.1, inl (folder, cut.0, is))
  beside_in_folder (Err error) path folder last name cut is = tt

  -- and of one without a slash
  pub beside_alone : (made : Result (String Z) E) (path name : List ℕ) → All (λ b. b ≢ 47) path → IfOk made (λ hidden. string_bytes hidden ≡ 46 ∷ name) → IfOk made (λ hidden. IsHiddenBeside path (string_bytes hidden))
  beside_alone (Ok hidden) path name plain is = (path, name, plain, inr (refl, is))
  beside_alone (Err error) path name plain is = tt

-- nor can one that ends with a slash
slashed_tail : (stem : List ℕ) → list_all is_part (tail (parts (stem ++ 47 ∷ []))) ≡ false
slashed_tail [] = refl
slashed_tail (b ∷ stem) =
    elim (eqb b 47) as (λ e. list_all is_part (tail (cond e ([] ∷ parts (stem ++ 47 ∷ [])) (onto_first b (parts (stem ++ 47 ∷ []))))) ≡ false) [
      | true ↦ whole_from_tail (parts (stem ++ 47 ∷ [])) (slashed_tail stem)
      | false ↦ tail_onto b (parts (stem ++ 47 ∷ [])) (slashed_tail stem)
    ]

pub slashed : (stem : List ℕ) → is_object_path (stem ++ 47 ∷ []) ≡ false
slashed stem = whole_from_tail (parts (stem ++ 47 ∷ [])) (slashed_tail stem)

onto_append : (b : ℕ) (p : List ℕ) (ps qs : List (List ℕ)) → onto_first b ((p ∷ ps) ++ qs) ≡ onto_first b (p ∷ ps) ++ qs
onto_append b p ps qs = refl

-- there is a first part
first_part : (path : List ℕ) → (p : List ℕ) × (ps : List (List ℕ)) × (parts path ≡ p ∷ ps)
first_part [] = ([], [], refl)
first_part (b ∷ path) =
    let rest = first_part path in
    elim (eqb b 47) as (λ e. (p : List ℕ) × (ps : List (List ℕ)) × (cond e ([] ∷ parts path) (onto_first b (parts path)) ≡ p ∷ ps)) [
      | true ↦ ([], parts path, refl)
      | false ↦ (b ∷ rest.0, rest.1, ap (onto_first b) rest.2)
    ]

parts_joined : (folder rest : List ℕ) → parts (folder ++ 47 ∷ rest) ≡ parts folder ++ parts rest
parts_joined [] rest = refl
parts_joined (b ∷ folder) rest =
    let more = parts_joined folder rest in
    let first = first_part folder in
    elim (eqb b 47) as (λ e. cond e ([] ∷ parts (folder ++ 47 ∷ rest)) (onto_first b (parts (folder ++ 47 ∷ rest))) ≡ cond e ([] ∷ parts folder) (onto_first b (parts folder)) ++ parts rest) [
      | true ↦ ap (λ ps. [] ∷ ps) more
      | false ↦ ap (onto_first b) (more ∙ ap (λ ps. ps ++ parts rest) first.2) ∙ onto_append b first.0 first.1 (parts rest) ∙ ap (λ ps. onto_first b ps ++ parts rest) (sym first.2)
    ]

all_first : (ps qs : List (List ℕ)) → list_all is_part (ps ++ qs) ≡ true → list_all is_part ps ≡ true
all_first [] qs h = refl
all_first (p ∷ ps) qs h =
    let both = and_parts (is_part p) (list_all is_part (ps ++ qs)) h in
    ap (λ b. b && list_all is_part ps) both.0 ∙ all_first ps qs both.1

-- the folder of an object's path could have an object
pub folder_named : (folder rest : List ℕ) → is_object_path (folder ++ 47 ∷ rest) ≡ true → is_object_path folder ≡ true
folder_named folder rest h = all_first (parts folder) (parts rest) (sym (ap (list_all is_part) (parts_joined folder rest)) ∙ h)

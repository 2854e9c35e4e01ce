-- The reader of a name passes exactly the names.
use Rattle.std.proofs.Common.{◌≡◌, ℕ, ◌<◌, ◌≤◌, ◌==◌, Bool, true, false, inl, inr, List, [], ◌∷◌, ◌++◌, length, Option, Some, None, refl, sym, ap, ◌∙◌, arith, Decides}
use Rattle.std.specs.Prelude.{codes, ◌⊎◌, ◌↔◌, IsTrue}
use Rattle.std.specs.List.{All, AllByRecursion, join_with_byte}
use Rattle.std.proofs.lemmas.Bool.{and_from, and_parts, cases_Bool, eqb-true}
use Rattle.std.proofs.lemmas.Bool.Decides.{Decides-and, Decides-or, Decides-not}
use Rattle.std.proofs.lemmas.List.Elements.{All-cons, All-nil}
use Rattle.std.proofs.lemmas.List.Splits.{join_with_byte-slice_split, length-slice_split, slice_split_at, slice_split_none}
use Rattle.std.proofs.lemmas.Slice.Eq.{bytes_eq-Decides}
use Rattle.zot_names.proofs.ComponentLemmas.{component_decides}
use Rattle.zot_names.specs.declared.component.Place.{Place}
use Rattle.zot_names.specs.declared.component.Place.TheVariants.{Start, Run, Underscore, Dashes}
use Rattle.zot_names.specs.Name.{IsComponent, IsFree, IsName, StandInRow, components_of, slash}
use Rattle.zot_names.specs.Reading.{completes, is_reserved, may_all_follow, may_follow, place_after}

-- ---- components have no slash

no_place : (place : Place) → place_after place slash ≡ None
no_place Start = refl
no_place Run = refl
no_place Underscore = refl
no_place Dashes = refl

abbrev HasNoSlash : List ℕ → Type 0
HasNoSlash text = All (λ c. (c == slash) ≡ false) text

completed_has_none : (place : Option Place) (text : List ℕ) → completes place text ≡ true → HasNoSlash text
completed_has_none None text h = cc h
completed_has_none (Some place) [] h = All-nil (λ c. (c == slash) ≡ false)
completed_has_none (Some place) (c ∷ rest) h =
    elim (cases_Bool (c == slash)) [
      | inl is ↦
          let after : place_after place c ≡ None = ap (place_after place) (eqb-true c slash is) ∙ no_place place in
          let none : false ≡ true = sym (ap (λ p. completes p rest) after) ∙ h in
          cc none
      | inr other ↦ All-cons (λ c. (c == slash) ≡ false) c rest other (completed_has_none (place_after place c) rest h)
    ]

component_has_none : (text : List ℕ) → IsComponent text → HasNoSlash text
component_has_none text is = completed_has_none (Some Start) text ((component_decides text).1 is)

-- the parts of components joined by slashes are these components
components_of-join : (part : List ℕ) (parts : List (List ℕ)) → AllByRecursion IsComponent (part ∷ parts)
    → components_of (join_with_byte slash (part ∷ parts)) ≡ part ∷ parts
components_of-join part [] all = slice_split_none (λ c. c == slash) part (component_has_none part all.0)
components_of-join part (next ∷ parts) all =
    slice_split_at (λ c. c == slash) part slash (join_with_byte slash (next ∷ parts)) (component_has_none part all.0) refl
    ∙ ap (λ rest. part ∷ rest) (components_of-join next parts all.1)

-- ---- reserved parts

one_first : (w part : List ℕ) (parts : List (List ℕ)) → part ≡ w → StandInRow (w ∷ []) (part ∷ parts)
one_first w part parts e = record { before = []; after = parts; spelled = ap (λ p. p ∷ parts) e }

two_first : (v w previous part : List ℕ) (parts : List (List ℕ)) → previous ≡ v → part ≡ w → StandInRow (v ∷ w ∷ []) (previous ∷ part ∷ parts)
two_first v w previous part parts e f = record { before = []; after = parts; spelled = cc }

stand_later : (row parts : List (List ℕ)) (part : List ℕ) → StandInRow row parts → StandInRow row (part ∷ parts)
stand_later row parts part h = record { before = part ∷ h.before; after = h.after; spelled = ap (λ t. part ∷ t) h.spelled }

one_cases : (w part : List ℕ) (parts : List (List ℕ)) → StandInRow (w ∷ []) (part ∷ parts) → (part ≡ w) ⊎ StandInRow (w ∷ []) parts
one_cases w part parts h = split h.before h.spelled
  where
    split : (before : List (List ℕ)) → part ∷ parts ≡ before ++ (w ∷ h.after) → (part ≡ w) ⊎ StandInRow (w ∷ []) parts
    split [] e = inl (cc e)
    split (b ∷ before) e = inr (record { before = before; after = h.after; spelled = cc e })

two_cases : (v w previous part : List ℕ) (parts : List (List ℕ)) → StandInRow (v ∷ w ∷ []) (previous ∷ part ∷ parts)
    → ((previous ≡ v) × (part ≡ w)) ⊎ StandInRow (v ∷ w ∷ []) (part ∷ parts)
two_cases v w previous part parts h = split h.before h.spelled
  where
    split : (before : List (List ℕ)) → previous ∷ part ∷ parts ≡ before ++ (v ∷ w ∷ h.after) → ((previous ≡ v) × (part ≡ w)) ⊎ StandInRow (v ∷ w ∷ []) (part ∷ parts)
    split [] e = inl (cc e, cc e)
    split (b ∷ before) e = inr (record { before = before; after = h.after; spelled = cc e })

none_stands : (row : List (List ℕ)) (part : List ℕ) → StandInRow (part ∷ row) [] → ⊥
none_stands row part h = split h.before h.spelled
  where
    split : (before : List (List ℕ)) → [] ≡ before ++ (part ∷ row ++ h.after) → ⊥
    split [] e = cc e
    split (b ∷ before) e = cc e

two_need_two : (v w part : List ℕ) → StandInRow (v ∷ w ∷ []) (part ∷ []) → ⊥
two_need_two v w part h = split h.before h.spelled
  where
    split : (before : List (List ℕ)) → part ∷ [] ≡ before ++ (v ∷ w ∷ h.after) → ⊥
    split [] e = cc e
    split (b ∷ []) e = cc e
    split (b ∷ d ∷ before) e = cc e

-- what reserves a part after the one before it
abbrev IsReservedAfter : List ℕ → List ℕ → Type 0
IsReservedAfter previous part =
    (part ≡ codes "index.json") ⊎ ((part ≡ codes "oci-layout") ⊎ ((previous ≡ codes "blobs") × ((part ≡ codes "sha256") ⊎ (part ≡ codes "sha512"))))

reserved_decides : (previous part : List ℕ) → Decides (is_reserved previous part) (IsReservedAfter previous part)
unfolding is_reserved
reserved_decides previous part =
    Decides-or _ _ (bytes_eq-Decides part (codes "index.json"))
    (Decides-or _ _ (bytes_eq-Decides part (codes "oci-layout"))
    (Decides-and _ _ (bytes_eq-Decides previous (codes "blobs"))
    (Decides-or _ _ (bytes_eq-Decides part (codes "sha256")) (bytes_eq-Decides part (codes "sha512")))))

-- no part after this one is reserved
record IsFreeAfter (previous : List ℕ) (parts : List (List ℕ)) : Type 0 where
  index : ¬ StandInRow (codes "index.json" ∷ []) parts
  layout : ¬ StandInRow (codes "oci-layout" ∷ []) parts
  sha256 : ¬ StandInRow (codes "blobs" ∷ codes "sha256" ∷ []) (previous ∷ parts)
  sha512 : ¬ StandInRow (codes "blobs" ∷ codes "sha512" ∷ []) (previous ∷ parts)

none_after : (previous : List ℕ) → IsFreeAfter previous []
none_after previous = record {
  index = none_stands [] _;
  layout = none_stands [] _;
  sha256 = two_need_two _ _ previous;
  sha512 = two_need_two _ _ previous;
}

free_from : (previous part : List ℕ) (parts : List (List ℕ)) → ¬ IsReservedAfter previous part → IsFreeAfter part parts → IsFreeAfter previous (part ∷ parts)
free_from previous part parts allowed free = record {
  index = λ h. elim (one_cases _ part parts h) [ inl is ↦ allowed (inl is) | inr later ↦ free.index later ];
  layout = λ h. elim (one_cases _ part parts h) [ inl is ↦ allowed (inr (inl is)) | inr later ↦ free.layout later ];
  sha256 = λ h. elim (two_cases _ _ previous part parts h) [ inl are ↦ allowed (inr (inr (are.0, inl are.1))) | inr later ↦ free.sha256 later ];
  sha512 = λ h. elim (two_cases _ _ previous part parts h) [ inl are ↦ allowed (inr (inr (are.0, inr are.1))) | inr later ↦ free.sha512 later ];
}

free_first : (previous part : List ℕ) (parts : List (List ℕ)) → IsFreeAfter previous (part ∷ parts) → ¬ IsReservedAfter previous part
free_first previous part parts free is =
    elim is [
      | inl index ↦ free.index (one_first _ part parts index)
      | inr other ↦
          elim other [
            | inl layout ↦ free.layout (one_first _ part parts layout)
            | inr pair ↦
                elim pair.1 [
                  | inl sha256 ↦ free.sha256 (two_first _ _ previous part parts pair.0 sha256)
                  | inr sha512 ↦ free.sha512 (two_first _ _ previous part parts pair.0 sha512)
                ]
          ]
    ]

free_rest : (previous part : List ℕ) (parts : List (List ℕ)) → IsFreeAfter previous (part ∷ parts) → IsFreeAfter part parts
free_rest previous part parts free = record {
  index = λ h. free.index (stand_later _ parts part h);
  layout = λ h. free.layout (stand_later _ parts part h);
  sha256 = λ h. free.sha256 (stand_later _ (part ∷ parts) previous h);
  sha512 = λ h. free.sha512 (stand_later _ (part ∷ parts) previous h);
}

-- ---- the whole name

may_follow_decides : (previous part : List ℕ) → Decides (may_follow previous part) (IsComponent part × (¬ IsReservedAfter previous part))
may_follow_decides previous part =
    Decides-and _ _ (component_decides part) (Decides-not _ (reserved_decides previous part))

abbrev AreComponentsAfter : List ℕ → List (List ℕ) → Type 0
AreComponentsAfter previous parts = AllByRecursion IsComponent parts × IsFreeAfter previous parts

all_follow_sound : (previous : List ℕ) (parts : List (List ℕ)) → may_all_follow previous parts ≡ true → AreComponentsAfter previous parts
all_follow_sound previous [] h = (tt, none_after previous)
all_follow_sound previous (part ∷ parts) h =
    let both = and_parts (may_follow previous part) (may_all_follow part parts) h in
    let first = (may_follow_decides previous part).0 both.0 in
    let rest = all_follow_sound part parts both.1 in
    ((first.0, rest.0), free_from previous part parts first.1 rest.1)

all_follow_from : (previous : List ℕ) (parts : List (List ℕ)) → AreComponentsAfter previous parts → may_all_follow previous parts ≡ true
all_follow_from previous [] h = refl
all_follow_from previous (part ∷ parts) h =
    and_from (may_follow previous part) (may_all_follow part parts)
    ((may_follow_decides previous part).1 (h.0.0, free_first previous part parts h.1))
    (all_follow_from part parts (h.0.1, free_rest previous part parts h.1))

-- after nothing
free_parts : (parts : List (List ℕ)) → IsFreeAfter [] parts → IsFree parts
free_parts parts h = record {
  index = h.index;
  layout = h.layout;
  sha256 = λ stands. h.sha256 (stand_later _ parts [] stands);
  sha512 = λ stands. h.sha512 (stand_later _ parts [] stands);
}

two_later : (v w : List ℕ) (parts : List (List ℕ)) → ([] ≡ v → ⊥) → StandInRow (v ∷ w ∷ []) ([] ∷ parts) → StandInRow (v ∷ w ∷ []) parts
two_later v w [] other h = absurd (two_need_two v w [] h)
two_later v w (part ∷ parts) other h = elim (two_cases v w [] part parts h) [ inl are ↦ absurd (other are.0) | inr later ↦ later ]

free_after : (parts : List (List ℕ)) → IsFree parts → IsFreeAfter [] parts
free_after parts h = record {
  index = h.index;
  layout = h.layout;
  sha256 = λ stands. h.sha256 (two_later _ _ parts (λ e. cc e) stands);
  sha512 = λ stands. h.sha512 (two_later _ _ parts (λ e. cc e) stands);
}

-- a text of at most 255 bytes whose parts the reader lets follow one another is a name
name_from : (text : List ℕ) → length text ≤ 255 → may_all_follow [] (components_of text) ≡ true → IsName text
name_from text short h =
    let parts = all_follow_sound [] (components_of text) h in
    let count = length-slice_split (λ c. c == slash) text in
    record {
      components = components_of text;
      some = omega arith;
      formed = parts.0;
      spelled = sym (join_with_byte-slice_split slash text);
      short = short;
      free = free_parts (components_of text) parts.1;
    }

component_list : (text : List ℕ) (parts : List (List ℕ)) → 0 < length parts → text ≡ join_with_byte slash parts → AllByRecursion IsComponent parts → components_of text ≡ parts
component_list text [] some e h = absurd (omega arith)
component_list text (part ∷ parts) some e h = ap components_of e ∙ components_of-join part parts h

-- a name has one list of components
pub components_of-name : (text : List ℕ) (is : IsName text) → components_of text ≡ is.components
components_of-name text is = component_list text is.components is.some is.spelled is.formed

name_follows : (text : List ℕ) → IsName text → may_all_follow [] (components_of text) ≡ true
name_follows text is =
    ap (may_all_follow []) (components_of-name text is) ∙ all_follow_from [] is.components (is.formed, free_after is.components is.free)

-- what a reader answers of a text that isn't too long
pub name_test : (text : List ℕ) (r : Bool) → length text ≤ 255 → r ≡ may_all_follow [] (components_of text) → IsTrue r ↔ IsName text
name_test text r short e = (λ h. name_from text short (sym e ∙ h), λ is. e ∙ name_follows text is)

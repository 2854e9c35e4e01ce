-- Replies taken apart.
use Rattle.std.proofs.Common.{◌≡◌, ℕ, ◌+◌, ◌/◌, ◌%◌, ◌<◌, ◌≤◌, List, [], ◌∷◌, ◌++◌, length, take, drop, refl, sym, ap, ◌∙◌, arith, slice_index, append-nil}
use Rattle.std.specs.Borrow.{Bor}
use Rattle.std.specs.List.{flat_map}
use Rattle.std.proofs.lemmas.List.{append_assoc, flat_map_more, length-append}
use Rattle.http.specs.StatusCode.{code_digits}
use Rattle.zot_spell.specs.declared.field.Field.{Field}
use Rattle.zot_spell.specs.Fields.{status_digits, status_line}
use Rattle.zot_spell.specs.Heads.{AreFields, IsField, IsFree, field_line, fields_text}
use Rattle.zot_spell.proofs.CutLemmas.{free_append, free_cons}

pub digits_at : (status : ℕ) (rest : List ℕ) → take 3 (drop 9 (status_line status ++ rest)) ≡ code_digits status
unfolding status_line status_digits
digits_at status rest = refl

pub status_long : (status : ℕ) (rest : List ℕ) → 12 ≤ length (status_line status ++ rest)
unfolding status_line status_digits
status_long status rest = simp length-append (omega arith)

pub same_digits : (s t : ℕ) → s < 1000 → t < 1000 → code_digits s ≡ code_digits t → s ≡ t
same_digits s t x y e =
    let hundreds : 48 + s / 100 ≡ 48 + t / 100 = ap (λ (l : List ℕ). slice_index l 0) e in
    let tens : 48 + s / 10 % 10 ≡ 48 + t / 10 % 10 = ap (λ (l : List ℕ). slice_index l 1) e in
    let ones : 48 + s % 10 ≡ 48 + t % 10 = ap (λ (l : List ℕ). slice_index l 2) e in
    omega (arith, hundreds, tens, ones)

-- the fields are those that were taken off and those that are left
abbrev pub AreLeft : List Field → List ℕ → List Field → List ℕ → Type 0
AreLeft fields body items left = (more : List Field) × (items ++ more ≡ fields) × AreFields more × (left ≡ fields_text more ++ body)

pub line_first : (field : Field) (fields : List Field) (body : List ℕ) → fields_text (field ∷ fields) ++ body ≡ field_line field ++ (fields_text fields ++ body)
line_first field fields body = simp append_assoc

pub left_more : (fields items : List Field) (body left rest : List ℕ) (field : Field) → AreLeft fields body items left → ((r : List ℕ) → left ≡ 13 ∷ (10 ∷ r) → ⊥)
    → ((f : Field) (r : List ℕ) → IsField f → left ≡ field_line f ++ r → (field ≡ f) × (rest ≡ r)) → AreLeft fields body (items ++ (field ∷ [])) rest
left_more fields items body left rest field ([], j, all, e) none some = absurd (none body e)
left_more fields items body left rest field (f ∷ more, j, all, e) none some =
    let k = some f (fields_text more ++ body) all.0 (e ∙ line_first f more body) in
    (more, ap (λ (x : Field). (items ++ (x ∷ [])) ++ more) k.0 ∙ append_assoc items (f ∷ []) more ∙ j, all.1, k.1)

pub left_none : (fields items : List Field) (body left : List ℕ) → AreLeft fields body items left → ((f : Field) (r : List ℕ) → IsField f → left ≡ field_line f ++ r → ⊥)
    → (items ≡ fields) × (left ≡ 13 ∷ (10 ∷ body))
left_none fields items body left ([], j, all, e) none = (sym (append-nil items) ∙ j, e)
left_none fields items body left (f ∷ more, j, all, e) none = absurd (none f (fields_text more ++ body) all.0 (e ∙ line_first f more body))

pub joined_more : (bytes left rest : List ℕ) (items : List Field) (field : Field) → bytes ≡ flat_map field_line items ++ left → left ≡ field_line field ++ rest
    → bytes ≡ flat_map field_line (items ++ (field ∷ [])) ++ rest
joined_more bytes left rest items field e j =
    e ∙ ap (λ (t : List ℕ). flat_map field_line items ++ t) j ∙ sym (append_assoc (flat_map field_line items) (field_line field) rest)
    ∙ ap (λ (t : List ℕ). t ++ rest) (flat_map_more field_line [] items field)

-- what is first is this field, and after it stands this
abbrev pub IsFirst : Field → List ℕ → Field × Bor (List ℕ) → Type 0
IsFirst field rest first = (first.0 ≡ field) × (first.1.now ≡ rest)

-- ---- a field's line

pub line_at : (bytes name value rest : List ℕ) → bytes ≡ (name ++ (58 ∷ (32 ∷ (value ++ (13 ∷ (10 ∷ [])))))) ++ rest → bytes ≡ (name ++ (58 ∷ (32 ∷ value))) ++ (13 ∷ (10 ∷ rest))
line_at bytes name value rest e = e ∙ simp append_assoc

pub line_free : (name value : List ℕ) → IsFree 13 name → IsFree 13 value → IsFree 13 (name ++ (58 ∷ (32 ∷ value)))
line_free name value f g = free_append 13 name (58 ∷ (32 ∷ value)) f (free_cons 13 58 (32 ∷ value) refl (free_cons 13 32 value refl g))

pub line_of : (bytes line after name text value rest : List ℕ) → bytes ≡ line ++ (13 ∷ after) → line ≡ name ++ (58 ∷ text) → text ≡ 32 ∷ value → after ≡ 10 ∷ rest
    → bytes ≡ (name ++ (58 ∷ (32 ∷ (value ++ (13 ∷ (10 ∷ [])))))) ++ rest
line_of bytes line after name text value rest a b c d = rw (a, b, c, d) (simp append_assoc)

-- The field lines of a request, as they are written and as they are read.
use Rattle.std.proofs.Common.{◌≡◌, ℕ, ◌<◌, ◌≤◌, ◌==◌, ◌&&◌, Bool, true, false, cond, Some, None, Option, IfSome, List, [], ◌∷◌, ◌++◌, All, decimal, if◌then◌else◌, map, length, nat_lt, option_map, reverse, refl, sym, ap, subst, ◌∙◌, arith, append_assoc, unwrap_or}
use Rattle.std.specs.List.{AllByRecursion, AllPass, flat_map, list_all, list_any}
use Rattle.std.specs.Option.{option_to_list}
use Rattle.std.proofs.lemmas.Bool.{and_right, cond-false, ne_eqb, or_from}
use Rattle.std.proofs.lemmas.Bool.Decides.{nat_tests}
use Rattle.std.proofs.lemmas.List.{reverse-append}
use Rattle.std.proofs.lemmas.List.Elements.{All-cons, All-head, All-nil, All-push, All-tail, All-weaker}
use Rattle.std.proofs.lemmas.List.Sums.{AllPass-from_list_all}
use Rattle.httparse.specs.Grammar.{Field as FieldLine, IsField, crlf, is_token_byte, is_value_byte, print_field, skip_ows, trim_ows}
use Rattle.httparse.proofs.TrimLemmas.{trim_ows_space}
use Rattle.zot_head.specs.declared.field.Field.{Field}
use Rattle.zot_head.specs.declared.framing.Framing.{Framing}
use Rattle.zot_head.specs.declared.framing.Framing.TheVariants as framings
use Rattle.zot_head.specs.Fields.{framing_by, framing_by_length, has_body, is_word, values_of}
use Rattle.zot_head.specs.Front.{field_of}
use Rattle.zot_model.specs.Valid.{IsShort}
use Rattle.zot_spell.specs.declared.field_name.FieldName.{FieldName}
use Rattle.zot_spell.specs.Heads.{field_line, field_of as made, name_text}
use Rattle.zot_spell.specs.Wire.{fields_given, present}
use Rattle.zot_delivery.proofs.ByteLemmas.{IsVisible, length_of-decimal}

-- the line of a field, as httparse's grammar has it
abbrev pub line_of : FieldName × List ℕ → FieldLine
line_of field = record { name = name_text field.0; raw = 32 ∷ field.1; end = crlf }

-- a field as it is read
abbrev pub read_field : FieldName × List ℕ → Field
read_field field = record { name = name_text field.0; value = field.1 }

-- the name is a token, and the value is visible where there is one
pub record IsWritten (field : FieldName × Option (List ℕ)) : Type 0 where
  pub some : 0 < length (name_text field.0)
  pub token : list_all is_token_byte (name_text field.0) ≡ true
  pub value : IfSome field.1 (λ value. All IsVisible value)

-- ---- values

-- visible, as a test
abbrev pub is_seen : ℕ → Bool
is_seen c = nat_lt 32 c && nat_lt c 127

-- a literal that is visible
pub literal_visible : (text : List ℕ) → list_all is_seen text ≡ true → All IsVisible text
literal_visible text e = All-weaker (λ c. is_seen c ≡ true) IsVisible seen_visible text (AllPass-from_list_all is_seen text e)
  where
    seen_visible : (c : ℕ) → is_seen c ≡ true → IsVisible c
    seen_visible c h = record { above = grind (arith, nat_tests); below = grind (arith, nat_tests) }

visible_value : (c : ℕ) → IsVisible c → is_value_byte c ≡ true
visible_value c h = let a = h.above in let b = h.below in grind (arith, nat_tests)

skip_visible : (value : List ℕ) → All IsVisible value → skip_ows value ≡ value
skip_visible [] all = refl
skip_visible (c ∷ value) all =
    let h = All-head IsVisible c value all in
    let a = h.above in
    cond-false _ _ _ (or_from (c == 32) (c == 9) (ne_eqb c 32 (λ e. omega arith)) (ne_eqb c 9 (λ e. omega arith)))

reverse_visible : (value : List ℕ) → All IsVisible value → All IsVisible (reverse value)
reverse_visible [] all = all
reverse_visible (c ∷ value) all =
    subst (All IsVisible) (sym (reverse-append (c ∷ []) value))
    (All-push IsVisible (reverse value) c (reverse_visible value (All-tail IsVisible c value all)) (All-head IsVisible c value all))

trimmed : (value : List ℕ) → All IsVisible value → trim_ows (32 ∷ value) ≡ value
trimmed value all = trim_ows_space value (skip_visible value all) (skip_visible (reverse value) (reverse_visible value all))

raw_value : (value : List ℕ) → All IsVisible value → AllPass is_value_byte (32 ∷ value)
raw_value value all =
    All-cons (λ c. is_value_byte c ≡ true) 32 value refl (All-weaker IsVisible (λ c. is_value_byte c ≡ true) visible_value value all)

-- ---- lines

pub lines_print : (fields : List (FieldName × Option (List ℕ))) → flat_map print_field (map line_of (present fields)) ≡ flat_map field_line (fields_given fields)
unfolding made
lines_print [] = refl
lines_print ((name, None) ∷ fields) = lines_print fields
lines_print ((name, Some value) ∷ fields) = λ i. append_assoc (name_text name) (58 ∷ 32 ∷ value) (13 ∷ 10 ∷ []) i ++ lines_print fields i

pub lines_are : (fields : List (FieldName × Option (List ℕ))) → AllByRecursion IsWritten fields → All IsField (map line_of (present fields))
lines_are [] all = All-nil IsField
lines_are ((name, None) ∷ fields) all = lines_are fields all.1
lines_are ((name, Some value) ∷ fields) all =
    All-cons IsField (line_of (name, value)) (map line_of (present fields))
    (record { name = (all.0.some, AllPass-from_list_all is_token_byte (name_text name) all.0.token); raw = raw_value value all.0.value }) (lines_are fields all.1)

pub lines_read : (fields : List (FieldName × Option (List ℕ))) → AllByRecursion IsWritten fields → map field_of (map line_of (present fields)) ≡ map read_field (present fields)
lines_read [] all = refl
lines_read ((name, None) ∷ fields) all = lines_read fields all.1
lines_read ((name, Some value) ∷ fields) all = λ i. record { name = name_text name; value = trimmed value all.0.value i } ∷ lines_read fields all.1 i

pub few_lines : (fields : List (FieldName × Option (List ℕ))) → length (map line_of (present fields)) ≤ length fields
few_lines [] = omega arith
few_lines ((name, None) ∷ fields) = omega (arith, few_lines fields)
few_lines ((name, Some value) ∷ fields) = omega (arith, few_lines fields)

-- ---- what is read of them

-- the values of the names that pass a test
abbrev pub chosen : {Name : Type 0} → (Name → Bool) → List (Name × Option (List ℕ)) → List (List ℕ)
chosen test [] = []
chosen test ((name, value) ∷ pairs) = if test name then option_to_list value ++ chosen test pairs else chosen test pairs

-- whether a field's name is that word
abbrev pub is_named : List ℕ → FieldName → Bool
is_named key name = is_word key (name_text name)

-- a name without a value adds none
pub none_chosen : (t : Bool) (rest : List (List ℕ)) → cond t rest rest ≡ rest
none_chosen true rest = refl
none_chosen false rest = refl

pub values_chosen : (key : List ℕ) (fields : List (FieldName × Option (List ℕ))) → values_of key (map read_field (present fields)) ≡ chosen (is_named key) fields
values_chosen key [] = refl
values_chosen key ((name, None) ∷ fields) = values_chosen key fields ∙ sym (none_chosen (is_named key name) (chosen (is_named key) fields))
values_chosen key ((name, Some value) ∷ fields) = ap (λ (rest : List (List ℕ)). if is_named key name then value ∷ rest else rest) (values_chosen key fields)

-- a test that no field of these names passes
pub none_passes : (test : Field → Bool) (fields : List (FieldName × Option (List ℕ))) → AllByRecursion (λ field. (value : List ℕ) → test (read_field (field.0, value)) ≡ false) fields
    → list_any test (map read_field (present fields)) ≡ false
none_passes test [] all = refl
none_passes test ((name, None) ∷ fields) all = none_passes test fields all.1
none_passes test ((name, Some value) ∷ fields) all =
    or_from (test (read_field (name, value))) (list_any test (map read_field (present fields))) (all.0 value) (none_passes test fields all.1)

pub expects_none : (fields : List Field) (framing : Framing) (any : Bool) → any ≡ false → (has_body framing && any) ≡ false
expects_none fields framing any e = rw e (and_right (has_body framing) false refl)

-- ---- the framing of a body

-- the value of a body's size, where there is a body
abbrev pub size_value : Option (List ℕ) → Option (List ℕ)
size_value body = option_map (λ b. decimal (length (unwrap_or body []))) body

abbrev pub framing_for : Option (List ℕ) → Framing
framing_for None = framings.None
framing_for (Some body) = framings.Length (length body)

pub framed_by : (body : Option (List ℕ)) → IfSome body (λ b. IsShort (length b)) → framing_by (option_to_list (size_value body)) [] ≡ Some (framing_for body)
framed_by None short = refl
framed_by (Some body) short = ap framing_by_length (length_of-decimal (length body) short)

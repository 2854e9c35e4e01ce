-- Which bytes names and tags have.
use Rattle.std.proofs.Common.{◌≡◌, ℕ, ◌==◌, true, inl, inr, List, [], ◌∷◌, ◌++◌, refl, sym, subst}
use Rattle.std.specs.List.{AllByRecursion, AllPass, flat_map, join_with_byte}
use Rattle.std.proofs.lemmas.Bool.{eqb-true, or_left}
use Rattle.std.proofs.lemmas.List.Elements.{All-append, All-cons, All-nil, All-weaker}
use Rattle.zot_names.specs.Name.{AreDashes, IsComponent, IsName, IsRun, IsSeparator, is_alphanumeric, is_name_byte, slash}
use Rattle.zot_names.specs.Tag.{IsTag, is_tag_byte, is_word_byte}

abbrev IsNameByte : ℕ → Type 0
IsNameByte c = is_name_byte c ≡ true

run_bytes : (run : List ℕ) → IsRun run → AllPass is_name_byte run
run_bytes run is = All-weaker (λ c. is_alphanumeric c ≡ true) IsNameByte (λ c h. or_left (is_alphanumeric c) _ h) run is.bytes

one_byte : (c : ℕ) → IsNameByte c → AllPass is_name_byte (c ∷ [])
one_byte c h = All-cons IsNameByte c [] h (All-nil IsNameByte)

dash_bytes : (text : List ℕ) → AreDashes text → AllPass is_name_byte text
dash_bytes text are = All-weaker (λ c. (c == 45) ≡ true) IsNameByte (λ c h. subst IsNameByte (sym (eqb-true c 45 h)) refl) text are.bytes

separator_bytes : (text : List ℕ) → IsSeparator text → AllPass is_name_byte text
separator_bytes text (inl dot) = subst (AllPass is_name_byte) (sym dot) (one_byte 46 refl)
separator_bytes text (inr (inl low)) = subst (AllPass is_name_byte) (sym low) (one_byte 95 refl)
separator_bytes text (inr (inr (inl two))) = subst (AllPass is_name_byte) (sym two) (All-cons IsNameByte 95 (95 ∷ []) refl (one_byte 95 refl))
separator_bytes text (inr (inr (inr dashes))) = dash_bytes text dashes

pair_bytes : (more : List (List ℕ × List ℕ)) → AllByRecursion (λ (pair : List ℕ × List ℕ). IsSeparator pair.0 × IsRun pair.1) more
    → AllPass is_name_byte (flat_map (λ (pair : List ℕ × List ℕ). pair.0 ++ pair.1) more)
pair_bytes [] all = All-nil IsNameByte
pair_bytes (pair ∷ more) all =
    All-append IsNameByte (pair.0 ++ pair.1) (flat_map (λ (p : List ℕ × List ℕ). p.0 ++ p.1) more)
    (All-append IsNameByte pair.0 pair.1 (separator_bytes pair.0 all.0.0) (run_bytes pair.1 all.0.1)) (pair_bytes more all.1)

component_bytes : (text : List ℕ) → IsComponent text → AllPass is_name_byte text
component_bytes text is =
    subst (AllPass is_name_byte) (sym is.spelled)
    (All-append IsNameByte is.first (flat_map (λ (p : List ℕ × List ℕ). p.0 ++ p.1) is.more) (run_bytes is.first is.run) (pair_bytes is.more is.joined))

joined_bytes : (parts : List (List ℕ)) → AllByRecursion IsComponent parts → AllPass is_name_byte (join_with_byte slash parts)
joined_bytes [] all = All-nil IsNameByte
joined_bytes (part ∷ []) all = component_bytes part all.0
joined_bytes (part ∷ next ∷ parts) all =
    All-append IsNameByte part (slash ∷ join_with_byte slash (next ∷ parts)) (component_bytes part all.0)
    (All-cons IsNameByte slash (join_with_byte slash (next ∷ parts)) refl (joined_bytes (next ∷ parts) all.1))

-- each byte of a name is one that names have
pub name_bytes : (text : List ℕ) → IsName text → AllPass is_name_byte text
name_bytes text is = subst (AllPass is_name_byte) (sym is.spelled) (joined_bytes is.components is.formed)

-- each byte of a tag is one that tags have
pub tag_bytes : (text : List ℕ) → IsTag text → AllPass is_tag_byte text
tag_bytes text is =
    subst (AllPass is_tag_byte) (sym is.spelled)
    (All-cons (λ c. is_tag_byte c ≡ true) is.first is.more (or_left (is_word_byte is.first) _ is.begins) is.bytes)

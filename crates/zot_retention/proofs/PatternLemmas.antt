-- What a built pattern finds is what its text does.
use Rattle.std.proofs.Common.{◌≡◌, ◌<◌, ◌≤◌, ℕ, true, false, List, length, get_or, Option, None, Some, IsSomeAnd, is_some, option_map, refl, sym, ap, subst, ◌∙◌, inl, inr, arith}
use Rattle.std.proofs.lemmas.Bool.{cases_lt}
use Rattle.std.proofs.lemmas.Bool.Decides.{nat_tests}
use Rattle.std.proofs.lemmas.List.{get_or_past}
use Rattle.std.proofs.lemmas.Option.{none-some}
use Rattle.std.specs.Option.{unwrap_or}
use Rattle.std.specs.Str.{chars}
use Rattle.regex.specs.Patterns.{Re, Config, Reads, find_str, default_config}
use Rattle.regex.specs.Strings.{regex_pattern, regex_source, regex_config, IsReadFromSource}
use Rattle.regex.specs.declared.string.regex.Regex.{Regex}
use Rattle.regex.proofs.ForCallers.{alike_as_written, is_match_alike}
use Rattle.regex.proofs.OnLiterals.{same_refl}
use Rattle.regex_syntax.specs.Brackets.{Nested}
use Rattle.regex_syntax.specs.Grammar.{Names, read}
use Rattle.regex_syntax.specs.Same.{SameTree}
use Rattle.zot_names.specs.Tag.{IsTag, is_tag_byte}
use Rattle.zot_names.proofs.ByteLemmas.{tag_bytes}
use Rattle.zot_retention.specs.Patterns.{IsPattern, finds}

never_none : {X : Type 0} (P : X → Type 0) (o : Option X) → IsSomeAnd o P → ¬ (o ≡ None)
never_none P None h e = h
never_none P (Some x) h e = none-some x (sym e)

module _ (r : Regex) (is_default : regex_config r ≡ default_config) (is_read : IsReadFromSource r) (tag : List ℕ) (bytes : (k : ℕ) → get_or tag k 0 < 256) where
  found_as_read : (o : Option (Nested Re × Names)) → read default_config (chars (regex_source r)) ≡ o →
      is_some (find_str (regex_pattern r) tag 0) ≡ unwrap_or (option_map (λ (found, _). is_some (find_str found.value tag 0)) o) false
  unfolding Reads
  found_as_read None e =
      absurd (never_none _ (read (regex_config r) (chars (regex_source r))) is_read (ap (λ (config : Config). read config (chars (regex_source r))) is_default ∙ e))
  found_as_read (Some x) e =
      is_match_alike
      (alike_as_written r default_config (regex_source r) refl is_default is_read x.0.value
      (subst (λ o. IsSomeAnd o (λ (found, _). SameTree found.value x.0.value)) (sym e) (same_refl x.0.value)))
      tag bytes true 0

  -- a regex that was read from a text finds what the text does
  pub finds_as_written : is_some (find_str (regex_pattern r) tag 0) ≡ finds (regex_source r) tag
  unfolding finds
  finds_as_written = found_as_read (read default_config (chars (regex_source r))) refl

at_some : {X : Type 0} (P : X → Type 0) (o : Option X) (x : X) → o ≡ Some x → IsSomeAnd o P → P x
at_some P o x e h = subst (λ found. IsSomeAnd found P) e h

nested_as_read : (r : Regex) → IsReadFromSource r → (o : Option (Nested Re × Names)) → read (regex_config r) (chars (regex_source r)) ≡ o →
    IsSomeAnd o (λ (found, _). found.depth ≤ (regex_config r).nest_limit)
unfolding Reads
nested_as_read r is_read None e = absurd (never_none _ (read (regex_config r) (chars (regex_source r))) is_read e)
nested_as_read r is_read (Some x) e = (at_some _ (read (regex_config r) (chars (regex_source r))) x e is_read).0

-- and its text is a pattern
pub is_pattern : (r : Regex) → regex_config r ≡ default_config → IsReadFromSource r → IsPattern (regex_source r)
unfolding IsPattern
is_pattern r is_default is_read =
    subst (λ (config : Config). IsSomeAnd (read config (chars (regex_source r))) (λ (found, _). found.depth ≤ config.nest_limit)) is_default
    (nested_as_read r is_read (read (regex_config r) (chars (regex_source r))) refl)

-- a tag's bytes are bytes
few : (c : ℕ) → is_tag_byte c ≡ true → c < 256
few c e = grind (arith, nat_tests)

pub bytes_of_tag : (tag : List ℕ) → IsTag tag → (k : ℕ) → get_or tag k 0 < 256
bytes_of_tag tag is_tag k = elim (cases_lt k (length tag))
    [ inl within ↦ few _ (tag_bytes tag is_tag k 0 within) | inr past ↦ rw (get_or_past tag k 0 past) (omega arith) ]

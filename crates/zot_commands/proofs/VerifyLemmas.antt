-- What `verify` did for its words.
use Rattle.std.proofs.Common.{◌≡◌, ℕ, List, [], ◌∷◌, Option, ap, sym, subst, codes, ◌∙◌}
use Rattle.std.specs.List.{concat}
use Rattle.zot_commands.specs.Program.{config_line, missing_line}
use Rattle.zot_commands.specs.PipeEndings.{bad_index_line, bad_meta_line}
use Rattle.zot_commands.specs.Verify.{RunsVerify, Verifies, ending_line, ending_status, verify_words}
use Rattle.zot_commands.specs.declared.ending.Ending.{Ending}
use Rattle.zot_outside.specs.Objects.{Objects}

-- the words are those of one path
one_path : (one other : List ℕ) → verify_words one ≡ verify_words other → one ≡ other
unfolding verify_words
one_path one other h = cc h

-- an ending for the path that the words have
pub runs_verify : (words : List (List ℕ)) (files : Option Objects) (code : ℕ) (Wrote WrotePart : List ℕ → Type 0) (Silent : Type 0) (Noted : List ℕ → Type 0) (found : List ℕ) (ending : Ending)
    → words ≡ verify_words found → Verifies files found ending Wrote WrotePart Silent → code ≡ ending_status ending → Noted (ending_line found ending)
    → RunsVerify words files code Wrote WrotePart Silent Noted
runs_verify words files code Wrote WrotePart Silent Noted found ending are ended status noted =
    λ path is. subst (λ p. (e : Ending) × Verifies files p e Wrote WrotePart Silent × (code ≡ ending_status e) × Noted (ending_line p e)) (one_path found path (sym are ∙ is)) (ending, ended, status, noted)

-- the line for a wrong field, of a field's path and of what was found
pub wrong_line : (a b field found : List ℕ) → a ≡ field → b ≡ found → concat (codes "zotd: config " ∷ a ∷ codes ": " ∷ b ∷ codes "\n" ∷ []) ≡ config_line field found
unfolding config_line
wrong_line a b field found h k =
    ap (λ f. concat (codes "zotd: config " ∷ f ∷ codes ": " ∷ b ∷ codes "\n" ∷ [])) h ∙ ap (λ t. concat (codes "zotd: config " ∷ field ∷ codes ": " ∷ t ∷ codes "\n" ∷ [])) k

-- the lines for a missing file, and for an object without a meaning, of a path
pub missing_path_line : (path a : List ℕ) → a ≡ path → concat (codes "zotd: missing " ∷ a ∷ codes "\n" ∷ []) ≡ missing_line path
unfolding missing_line
missing_path_line path a h = ap (λ p. concat (codes "zotd: missing " ∷ p ∷ codes "\n" ∷ [])) h

pub index_path_line : (path a : List ℕ) → a ≡ path → concat (codes "zotd: bad index " ∷ a ∷ codes "\n" ∷ []) ≡ bad_index_line path
unfolding bad_index_line
index_path_line path a h = ap (λ p. concat (codes "zotd: bad index " ∷ p ∷ codes "\n" ∷ [])) h

pub meta_path_line : (path a : List ℕ) → a ≡ path → concat (codes "zotd: bad meta " ∷ a ∷ codes "\n" ∷ []) ≡ bad_meta_line path
unfolding bad_meta_line
meta_path_line path a h = ap (λ p. concat (codes "zotd: bad meta " ∷ p ∷ codes "\n" ∷ [])) h

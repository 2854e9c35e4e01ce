-- Lines that are read one after another.
use Rattle.std.proofs.Common.{◌≡◌, ℕ, ◌+◌, ◌<◌, Bool, true, false, length, take, drop, get_or, List, [], ◌∷◌, ◌++◌, Option, Some, None, refl, sym, ap, ◌∙◌, append_assoc}
use Rattle.std.proofs.Common.{◌==◌, ◌≢◌, reverse, arith}
use Rattle.std.specs.Prelude.{IfOk, Result, Ok, Err, codes, if◌then◌else◌}
use Rattle.std.specs.List.{slice_split}
use Rattle.std.proofs.lemmas.Bool.{eqb-true, false_from_ne_true}
use Rattle.std.specs.Str.{bytes_eq}
use Rattle.std.proofs.lemmas.List.{at_drop_more, reverse-append, reverse-reverse}
use Rattle.zot_links.specs.Records.{each_line, if_in_order, in_order, is_feed, join_line, line_of, link_line, record_by, record_of, whole_line}
use Rattle.zot_links.specs.declared.record_line.RecordLine.{RecordLine}

-- lines with these behind them
abbrev pub behind : List RecordLine → Option (List RecordLine) → Option (List RecordLine)
behind lines None = None
behind lines (Some more) = Some (lines ++ more)

pub behind_none : (o : Option (List RecordLine)) → behind [] o ≡ o
behind_none None = refl
behind_none (Some more) = refl

-- a line that was read stands behind those before
pub one_more : (lines : List RecordLine) (line : RecordLine) (part : List ℕ) (parts : List (List ℕ)) → line_of part ≡ Some line
    → behind lines (each_line (part ∷ parts)) ≡ behind (lines ++ line ∷ []) (each_line parts)
one_more lines line part parts is = ap (λ o. behind lines (join_line o (each_line parts))) is ∙ joined (each_line parts) where
  joined : (o : Option (List RecordLine)) → behind lines (join_line (Some line) o) ≡ behind (lines ++ line ∷ []) o
  joined None = refl
  joined (Some more) = ap Some (sym (append_assoc lines (line ∷ []) more))

-- where a part is no line, there are none
pub none_more : (lines : List RecordLine) (part : List ℕ) (parts : List (List ℕ)) → line_of part ≡ None → behind lines (each_line (part ∷ parts)) ≡ None
none_more lines part parts is = ap (λ o. behind lines (join_line o (each_line parts))) is

-- ---- the parts of a record by how they begin

pub whole_part : (part : List ℕ) → bytes_eq (take 2 part) (codes "W ") ≡ true → line_of part ≡ whole_line (drop 2 part)
unfolding line_of
whole_part part is = ap (λ b. if b then whole_line (drop 2 part) else if bytes_eq (take 2 part) (codes "L ") then link_line (drop 2 part) else None) is

pub link_part : (part : List ℕ) → bytes_eq (take 2 part) (codes "W ") ≡ false → bytes_eq (take 2 part) (codes "L ") ≡ true → line_of part ≡ link_line (drop 2 part)
unfolding line_of
link_part part other is =
    ap (λ b. if b then whole_line (drop 2 part) else if bytes_eq (take 2 part) (codes "L ") then link_line (drop 2 part) else None) other
    ∙ ap (λ b. if b then link_line (drop 2 part) else None) is

pub no_part : (part : List ℕ) → bytes_eq (take 2 part) (codes "W ") ≡ false → bytes_eq (take 2 part) (codes "L ") ≡ false → line_of part ≡ None
unfolding line_of
no_part part other none =
    ap (λ b. if b then whole_line (drop 2 part) else if bytes_eq (take 2 part) (codes "L ") then link_line (drop 2 part) else None) other
    ∙ ap (λ b. if b then link_line (drop 2 part) else None) none

-- ---- the parts that are left, of which the first is this one

pub from_part : (lines : List RecordLine) (line : RecordLine) (part : List ℕ) (parts : List (List ℕ)) (i : ℕ) → (i < length parts) × (part ≡ get_or parts i part) → line_of part ≡ Some line
    → behind lines (each_line (drop i parts)) ≡ behind (lines ++ line ∷ []) (each_line (drop (i + 1) parts))
from_part lines line part parts i h is =
    at_drop_more (λ ps. behind lines (each_line ps)) parts i part h.0
    ∙ ap (λ p. behind lines (each_line (p ∷ drop (i + 1) parts))) (sym h.1) ∙ one_more lines line part (drop (i + 1) parts) is

pub from_none : (lines : List RecordLine) (part : List ℕ) (parts : List (List ℕ)) (i : ℕ) → (i < length parts) × (part ≡ get_or parts i part) → line_of part ≡ None
    → behind lines (each_line (drop i parts)) ≡ None
from_none lines part parts i h is =
    at_drop_more (λ ps. behind lines (each_line ps)) parts i part h.0
    ∙ ap (λ p. behind lines (each_line (p ∷ drop (i + 1) parts))) (sym h.1) ∙ none_more lines part (drop (i + 1) parts) is

-- ---- whole records

pub no_lines : (bytes : List ℕ) → length bytes ≡ 0 → record_of bytes ≡ Some []
unfolding record_of
no_lines [] h = refl
no_lines (b ∷ bytes) h = absurd (omega (arith, h))

backwards : (whole : List ℕ) (last : ℕ) → record_of (whole ++ last ∷ []) ≡ record_by (last ∷ reverse whole)
unfolding record_of
backwards whole last = ap record_by (reverse-append whole (last ∷ []))

pub no_feed : (whole : List ℕ) (last : ℕ) → last ≢ 10 → record_of (whole ++ last ∷ []) ≡ None
no_feed whole last other =
    backwards whole last
    ∙ ap (λ b. if b then if_in_order (each_line (slice_split is_feed (reverse (reverse whole)))) else None) (false_from_ne_true (last == 10) (λ h. other (eqb-true last 10 h)))

-- the record of a text with a line feed behind it
pub ended : (bytes whole : List ℕ) (last : ℕ) → bytes ≡ whole ++ last ∷ [] → last ≡ 10 → record_of bytes ≡ if_in_order (each_line (slice_split is_feed whole))
ended bytes whole last is feed =
    ap record_of (is ∙ ap (λ c. whole ++ c ∷ []) feed) ∙ backwards whole 10
    ∙ ap (λ t. if_in_order (each_line (slice_split is_feed t))) (reverse-reverse whole)

pub by_order : (lines : List RecordLine) (b : Bool) → in_order [] lines ≡ b → if_in_order (Some lines) ≡ (if b then Some lines else None)
by_order lines b is = ap (λ t. if t then Some lines else None) is

-- a fact of a result that follows from another
pub on_ok : {A E : Type 0} (r : Result A E) (P Q : A → Type 0) → ((x : A) → P x → Q x) → IfOk r P → IfOk r Q
on_ok (Ok x) P Q f h = f x h
on_ok (Err e) P Q f h = h

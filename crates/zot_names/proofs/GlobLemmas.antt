-- How a glob's pieces stand for a text, piece by piece.
use Rattle.std.proofs.Common.{◌≡◌, ℕ, ◌≤◌, inl, inr, List, [], ◌∷◌, ◌++◌, length, map, refl, sym, ap, subst, ◌∙◌, append_assoc, length-append, arith}
use Rattle.std.specs.Prelude.{◌≢◌, ◌⊎◌}
use Rattle.std.proofs.lemmas.Bool.{cases_eq}
use Rattle.std.proofs.lemmas.List.Elements.{All-append, All-cons, All-head, All-nil, All-tail}
use Rattle.zot_names.specs.declared.piece.Piece.{Piece}
use Rattle.zot_names.specs.declared.piece.Piece.TheVariants.{Byte, Within, Across}
use Rattle.zot_names.specs.Glob.{HasNoSlash, StandFor}
use Rattle.zot_names.specs.Name.{slash}

-- ---- lists

-- of two ways to cut a list, the one that cuts later has the other's front in its own
cut_later : (front rest later end : List ℕ) → front ++ rest ≡ later ++ end → length front ≤ length later
    → (gap : List ℕ) × (rest ≡ gap ++ end) × (later ≡ front ++ gap)
cut_later [] rest later end e le = (later, e, refl)
cut_later (c ∷ front) rest [] end e le = absurd (omega arith)
cut_later (c ∷ front) rest (d ∷ later) end e le =
    let (gap, f, g) = cut_later front rest later end (cc e) (omega arith) in
    let h : d ≡ c = cc e in
    (gap, f, cc (g, h))

same_rest : (front rest other : List ℕ) → front ++ rest ≡ front ++ other → rest ≡ other
same_rest [] rest other e = e
same_rest (c ∷ front) rest other e = same_rest front rest other (cc e)

-- ---- bytes

abbrev pub bytes_of : List ℕ → List Piece
bytes_of bytes = map Byte bytes

pub stand_bytes : (bytes text : List ℕ) (pieces : List Piece) → StandFor pieces text → StandFor (bytes_of bytes ++ pieces) (bytes ++ text)
stand_bytes [] text pieces h = h
stand_bytes (c ∷ bytes) text pieces h = (bytes ++ text, refl, stand_bytes bytes text pieces h)

bytes_stand : (bytes text : List ℕ) (pieces : List Piece) → StandFor (bytes_of bytes ++ pieces) text → (rest : List ℕ) × (text ≡ bytes ++ rest) × StandFor pieces rest
bytes_stand [] text pieces h = (text, refl, h)
bytes_stand (c ∷ bytes) text pieces (after, e, h) =
    let (rest, f, k) = bytes_stand bytes after pieces h in
    (rest, e ∙ ap (λ t. c ∷ t) f, k)

pub after_bytes : (bytes text : List ℕ) (pieces : List Piece) → StandFor (bytes_of bytes ++ pieces) (bytes ++ text) → StandFor pieces text
after_bytes bytes text pieces h =
    let (rest, e, k) = bytes_stand bytes (bytes ++ text) pieces h in
    subst (StandFor pieces) (sym (same_rest bytes text rest e)) k

-- ---- runs

abbrev IsClear : ℕ → Type 0
IsClear c = c ≢ slash

-- no bytes, one byte more, and a run more
pub across_none : (pieces : List Piece) (text : List ℕ) → StandFor pieces text → StandFor (Across ∷ pieces) text
across_none pieces text h = ([], text, refl, h)

pub within_none : (pieces : List Piece) (text : List ℕ) → StandFor pieces text → StandFor (Within ∷ pieces) text
within_none pieces text h = ([], text, refl, All-nil IsClear, h)

pub across_more : (pieces : List Piece) (c : ℕ) (text : List ℕ) → StandFor (Across ∷ pieces) text → StandFor (Across ∷ pieces) (c ∷ text)
across_more pieces c text (run, rest, e, h) = (c ∷ run, rest, ap (λ t. c ∷ t) e, h)

pub within_more : (pieces : List Piece) (c : ℕ) (text : List ℕ) → (c ≡ slash → ⊥) → StandFor (Within ∷ pieces) text → StandFor (Within ∷ pieces) (c ∷ text)
within_more pieces c text other (run, rest, e, clear, h) =
    (c ∷ run, rest, ap (λ t. c ∷ t) e, All-cons IsClear c run other clear, h)

pub across_less : (pieces : List Piece) (c : ℕ) (text : List ℕ) → ¬ StandFor pieces (c ∷ text) → StandFor (Across ∷ pieces) (c ∷ text) → StandFor (Across ∷ pieces) text
across_less pieces c text none ([], rest, e, h) = absurd (none (subst (StandFor pieces) (sym e) h))
across_less pieces c text none (d ∷ run, rest, e, h) = (run, rest, cc e, h)

pub within_less : (pieces : List Piece) (c : ℕ) (text : List ℕ) → ¬ StandFor pieces (c ∷ text) → StandFor (Within ∷ pieces) (c ∷ text) → StandFor (Within ∷ pieces) text
within_less pieces c text none ([], rest, e, clear, h) = absurd (none (subst (StandFor pieces) (sym e) h))
within_less pieces c text none (d ∷ run, rest, e, clear, h) = (run, rest, cc e, All-tail IsClear d run clear, h)

-- a run of no bytes, where there are none, or where a slash comes first
pub across_end : (pieces : List Piece) → StandFor (Across ∷ pieces) [] → StandFor pieces []
across_end pieces ([], rest, e, h) = subst (StandFor pieces) (sym e) h
across_end pieces (d ∷ run, rest, e, h) = cc e

pub within_end : (pieces : List Piece) → StandFor (Within ∷ pieces) [] → StandFor pieces []
within_end pieces ([], rest, e, clear, h) = subst (StandFor pieces) (sym e) h
within_end pieces (d ∷ run, rest, e, clear, h) = cc e

pub within_slash : (pieces : List Piece) (text : List ℕ) → StandFor (Within ∷ pieces) (slash ∷ text) → StandFor pieces (slash ∷ text)
within_slash pieces text ([], rest, e, clear, h) = subst (StandFor pieces) (sym e) h
within_slash pieces text (d ∷ run, rest, e, clear, h) = let first : d ≡ slash = cc e in absurd (All-head IsClear d run clear first)

-- a run after a run
pub across_within : (pieces : List Piece) (text : List ℕ) → StandFor (Across ∷ Within ∷ pieces) text → StandFor (Across ∷ pieces) text
across_within pieces text (run, rest, e, (more, end, f, clear, h)) =
    (run ++ more, end, e ∙ ap (λ t. run ++ t) f ∙ sym (append_assoc run more end), h)

pub across_across : (pieces : List Piece) (text : List ℕ) → StandFor (Across ∷ Across ∷ pieces) text → StandFor (Across ∷ pieces) text
across_across pieces text (run, rest, e, (more, end, f, h)) =
    (run ++ more, end, e ∙ ap (λ t. run ++ t) f ∙ sym (append_assoc run more end), h)

-- a later match of bytes and pieces has a later match of the pieces in it
pub across_bytes : (bytes text : List ℕ) (pieces : List Piece) → StandFor (Across ∷ (bytes_of bytes ++ pieces)) (bytes ++ text) → StandFor (Across ∷ pieces) text
across_bytes bytes text pieces (run, rest, e, h) =
    let (end, f, k) = bytes_stand bytes rest pieces h in
    let whole : bytes ++ text ≡ (run ++ bytes) ++ end = e ∙ ap (λ t. run ++ t) f ∙ sym (append_assoc run bytes end) in
    let (gap, g, _) = cut_later bytes text (run ++ bytes) end whole (omega (arith, length-append run bytes)) in
    (gap, end, g, k)

-- ---- a star after a star

clear_rest : (front rest : List ℕ) → HasNoSlash (front ++ rest) → HasNoSlash rest
clear_rest [] rest h = h
clear_rest (c ∷ front) rest h = clear_rest front rest (All-tail IsClear c (front ++ rest) h)

-- a list has no slash, or a first one
abbrev HasFirstSlash : List ℕ → Type 0
HasFirstSlash bytes = (front : List ℕ) × (after : List ℕ) × HasNoSlash front × (bytes ≡ front ++ (slash ∷ after))

slash_first : (c : ℕ) (bytes : List ℕ) → (c ≡ slash) ⊎ (c ≢ slash) → HasNoSlash bytes ⊎ HasFirstSlash bytes → HasNoSlash (c ∷ bytes) ⊎ HasFirstSlash (c ∷ bytes)
slash_first c bytes (inl is) more = inr ([], bytes, All-nil IsClear, ap (λ d. d ∷ bytes) is)
slash_first c bytes (inr other) (inl clear) = inl (All-cons IsClear c bytes other clear)
slash_first c bytes (inr other) (inr (front, after, clear, e)) = inr (c ∷ front, after, All-cons IsClear c front other clear, ap (λ t. c ∷ t) e)

first_slash : (bytes : List ℕ) → HasNoSlash bytes ⊎ HasFirstSlash bytes
first_slash [] = inl (All-nil IsClear)
first_slash (c ∷ bytes) = slash_first c bytes (cases_eq c slash) (first_slash bytes)

-- the first slash of a list is one
after_first : (front other after rest : List ℕ) → HasNoSlash front → HasNoSlash other → front ++ (slash ∷ after) ≡ other ++ (slash ∷ rest) → after ≡ rest
after_first [] [] after rest clear clear' e = cc e
after_first [] (d ∷ other) after rest clear clear' e = let first : d ≡ slash = cc e in absurd (All-head IsClear d other clear' first)
after_first (c ∷ front) [] after rest clear clear' e = let first : c ≡ slash = cc e in absurd (All-head IsClear c front clear first)
after_first (c ∷ front) (d ∷ other) after rest clear clear' e =
    after_first front other after rest (All-tail IsClear c front clear) (All-tail IsClear d other clear') (cc e)

-- where bytes come later after a run without a slash, and such a run after them, what lies between has no slash either
gap_is_clear : (run bytes more gap : List ℕ) → HasNoSlash run → HasNoSlash more → (run ++ bytes) ++ more ≡ bytes ++ gap → HasNoSlash gap
gap_is_clear run bytes more gap clear clear' e =
    elim (first_slash bytes) [
      | inl none ↦
          let all = All-append IsClear (run ++ bytes) more (All-append IsClear run bytes clear none) clear' in
          clear_rest bytes gap (subst HasNoSlash e all)
      | inr first ↦ gap_after run more gap first.0 first.1 clear clear' first.2 (subst (λ (b : List ℕ). (run ++ b) ++ more ≡ b ++ gap) first.3 e)
    ]
  where
    gap_after : (run more gap front after : List ℕ) → HasNoSlash run → HasNoSlash more → HasNoSlash front
        → (run ++ (front ++ (slash ∷ after))) ++ more ≡ (front ++ (slash ∷ after)) ++ gap → HasNoSlash gap
    gap_after run more gap front after clear clear' clear'' e =
        let left : (run ++ (front ++ (slash ∷ after))) ++ more ≡ (run ++ front) ++ (slash ∷ (after ++ more)) =
        ap (λ t. t ++ more) (sym (append_assoc run front (slash ∷ after))) ∙ append_assoc (run ++ front) (slash ∷ after) more in
        let right : (front ++ (slash ∷ after)) ++ gap ≡ front ++ (slash ∷ (after ++ gap)) = append_assoc front (slash ∷ after) gap in
        let same = after_first (run ++ front) front (after ++ more) (after ++ gap) (All-append IsClear run front clear clear'') clear'' (sym left ∙ e ∙ right) in
        subst HasNoSlash (same_rest after more gap same) clear'

-- after a star, a later match of bytes and a star is an earlier one
pub within_bytes : (bytes text : List ℕ) (pieces : List Piece) → StandFor (Within ∷ (bytes_of bytes ++ (Within ∷ pieces))) (bytes ++ text) → StandFor (Within ∷ pieces) text
within_bytes bytes text pieces (run, rest, e, clear, h) =
    let (after, f, (more, end, g, clear', k)) = bytes_stand bytes rest (Within ∷ pieces) h in
    let tail : run ++ rest ≡ ((run ++ bytes) ++ more) ++ end =
    ap (λ t. run ++ t) (f ∙ ap (λ t. bytes ++ t) g) ∙ sym (append_assoc run bytes (more ++ end)) ∙ sym (append_assoc (run ++ bytes) more end) in
    let lengths = length-append run bytes in
    let longer = length-append (run ++ bytes) more in
    let (gap, j, between) = cut_later bytes text ((run ++ bytes) ++ more) end (e ∙ tail) (omega arith) in
    (gap, end, j, gap_is_clear run bytes more gap clear clear' between, k)

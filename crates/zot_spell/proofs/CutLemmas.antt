-- Where texts are cut.
use Rattle.std.proofs.Common.{◌≡◌, ℕ, zero, suc, ◌-◌, ◌<◌, ◌==◌, Bool, true, false, List, [], ◌∷◌, ◌++◌, length, take, drop, refl, sym, ap, subst, ◌∙◌, arith, get_or, take_all}
use Rattle.std.specs.List.{before_first, position_or_len}
use Rattle.std.specs.Prelude.{Option, Some, None, IfSome, MatchOption}
use Rattle.std.proofs.Math.ListN.{get_or-append}
use Rattle.std.proofs.Math.Seq.{drop-cons, take-append_seam}
use Rattle.std.proofs.lemmas.Bool.{eqb-true}
use Rattle.std.proofs.lemmas.Bool.Decides.{nat_tests}
use Rattle.std.proofs.lemmas.List.{length-append, length-take, take-append-drop}
use Rattle.std.proofs.lemmas.List.Sums.{passes_at_first, position_or_len_is}
use Rattle.zot_spell.specs.Heads.{IsFree}

at_seam : (text rest : List ℕ) (end : ℕ) → get_or (text ++ (end ∷ rest)) (length text) 0 ≡ end
at_seam [] rest end = refl
at_seam (c ∷ text) rest end = at_seam text rest end

-- a text that is free of its end stands before it
pub before_end : (end : ℕ) (text rest : List ℕ) → IsFree end text → before_first (λ (b : ℕ). b == end) (text ++ (end ∷ rest)) ≡ text
before_end end text rest free =
    let all = text ++ (end ∷ rest) in
    let place : position_or_len (λ (b : ℕ). b == end) all ≡ length text =
    position_or_len_is (λ (b : ℕ). b == end) all (length text) 0 (simp length-append (omega arith))
    (λ k lt. rw (get_or-append text (end ∷ rest) 0 k lt) (free k lt))
    (λ lt. rw (at_seam text rest end) (grind (arith, nat_tests))) in
    rw place (take-append_seam text (end ∷ rest))

pub free_all : (end : ℕ) (bytes : List ℕ) → IsFree end bytes → before_first (λ (b : ℕ). b == end) bytes ≡ bytes
free_all end bytes free =
    rw (position_or_len_is (λ (b : ℕ). b == end) bytes (length bytes) 0 (omega arith) (λ k lt. free k lt) (λ lt. absurd (omega (arith, lt))))
    (take_all (length bytes) bytes (omega arith))

pub after_end : (bytes : List ℕ) (end : ℕ) (rest : List ℕ) → bytes ≡ end ∷ rest → take (length bytes - 1) (drop 1 bytes) ≡ rest
after_end bytes end rest e = rw e (take_all _ rest (omega arith))

pub drop_seam : (text rest : List ℕ) → drop (length text) (text ++ rest) ≡ rest
drop_seam [] rest = refl
drop_seam (c ∷ text) rest = drop_seam text rest

pub cut_front : (front a b : List ℕ) → front ++ a ≡ front ++ b → a ≡ b
cut_front front a b e = sym (drop_seam front a) ∙ ap (drop (length front)) e ∙ drop_seam front b

pub same_long : (t u a b : List ℕ) → length t ≡ length u → t ++ a ≡ u ++ b → (t ≡ u) × (a ≡ b)
same_long t u a b l e =
    let s : t ≡ u = sym (take-append_seam t a) ∙ ap (take (length t)) e ∙ ap (λ (n : ℕ). take n (u ++ b)) l ∙ take-append_seam u b in
    (s, cut_front u a b (ap (λ (x : List ℕ). x ++ a) (sym s) ∙ e))

pub same_ended : (end : ℕ) (t u a b : List ℕ) → IsFree end t → IsFree end u → t ++ (end ∷ a) ≡ u ++ (end ∷ b) → (t ≡ u) × (a ≡ b)
same_ended end t u a b f g e =
    let s : t ≡ u = sym (before_end end t a f) ∙ ap (before_first (λ (c : ℕ). c == end)) e ∙ before_end end u b g in
    (s, ap (drop 1) (cut_front u (end ∷ a) (end ∷ b) (ap (λ (x : List ℕ). x ++ (end ∷ a)) (sym s) ∙ e)))

-- what stands before a cut, its end and what stands after it are the whole
pub joined_at : (bytes front back : List ℕ) (end place : ℕ) → place ≡ length (before_first (λ (b : ℕ). b == end) bytes) → front ≡ take place bytes → back ≡ drop place bytes → place < length bytes
    → bytes ≡ front ++ (end ∷ take (length back - 1) (drop 1 back))
joined_at bytes front back end place p f b lt =
    let test : ℕ → Bool = λ c. c == end in
    let pos : position_or_len test bytes ≡ place = omega (arith, p, length-take (position_or_len test bytes) bytes) in
    let low : position_or_len test bytes < length bytes = omega (arith, pos, lt) in
    let at : (get_or bytes place 0 == end) ≡ true = subst (λ (n : ℕ). (get_or bytes n 0 == end) ≡ true) pos (passes_at_first test bytes 0 low) in
    let tail : drop place bytes ≡ end ∷ drop (suc place) bytes = drop-cons bytes place 0 lt ∙ ap (λ (c : ℕ). c ∷ drop (suc place) bytes) (eqb-true (get_or bytes place 0) end at) in
    let rest = after_end back end (drop (suc place) bytes) (b ∙ tail) in
    sym (take-append-drop place bytes) ∙ ap (λ (t : List ℕ). take place bytes ++ t) tail ∙ ap (λ (t : List ℕ). t ++ (end ∷ drop (suc place) bytes)) (sym f) ∙ ap (λ (t : List ℕ). front ++ (end ∷ t)) (sym rest)

-- ---- texts that are free of a byte

pub free_cons : (end c : ℕ) (text : List ℕ) → (c == end) ≡ false → IsFree end text → IsFree end (c ∷ text)
free_cons end c text h f zero lt = h
free_cons end c text h f (suc k) lt = f k (omega (arith, lt))

pub free_append : (end : ℕ) (text more : List ℕ) → IsFree end text → IsFree end more → IsFree end (text ++ more)
free_append end [] more f g = g
free_append end (c ∷ text) more f g = free_cons end c (text ++ more) (f 0 (omega arith)) (free_append end text more (λ k lt. f (suc k) (omega (arith, lt))) g)

-- ---- what was found

some_back : {A : Type 0} (a x : A) → Some a ≡ Some x → a ≡ x
some_back a x h = cc h

pub unmatched : {A : Type 0} (P : A → Type 0) (found : Option A) → MatchOption found ⊥ P → found ≡ None → ⊥
unmatched P None m s = m
unmatched P (Some a) m s = cc s

pub matched : {A : Type 0} (P : A → Type 0) (found : Option A) (a : A) → MatchOption found ⊥ P → found ≡ Some a → P a
matched P (Some x) a m s = subst P (some_back x a s) m
matched P None a m s = absurd m

pub if_some : {A : Type 0} (P : A → Type 0) (found : Option A) (a : A) → IfSome found P → found ≡ Some a → P a
if_some P (Some x) a m s = subst P (some_back x a s) m
if_some P None a m s = cc s

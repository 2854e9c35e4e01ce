use Rattle.std.proofs.Common.{◌≡◌, ℕ, List, [], ◌∷◌, length, refl, sym, ap, subst, ◌∙◌, arith}
use Rattle.std.proofs.lemmas.Bool.{eqb-true, eqb-false}
use Rattle.zot_names.proofs.TryLemmas.{bytes_fail, bytes_more, bytes_whole}
use Rattle.zot_names.specs.Glob.{StandFor, pieces_of}
use Rattle.zot_names.specs.declared.piece.Piece.{Piece}
use Rattle.zot_names.specs.declared.piece.Piece.TheVariants.{Byte}
use Rattle.zot_names.proofs.glob.skip_bytes.Goals as goal

-- a byte stands for itself alone
other_byte : (c : ℕ) (glob after text : List ℕ) → pieces_of glob ≡ Byte c ∷ pieces_of after → ((left : List ℕ) → text ≡ c ∷ left → ⊥)
    → ¬ StandFor (pieces_of glob) text
other_byte c glob after text e none h =
    let k = subst (λ (p : List Piece). StandFor p text) e h in
    none k.0 k.1

none_left : (glob text : List ℕ) → glob ≡ [] → text ≡ [] → StandFor (pieces_of glob) text
none_left glob text e f = subst (λ (g : List ℕ). StandFor (pieces_of g) text) (sym e) f

no_bytes : (text : List ℕ) → length text ≡ 0 → text ≡ []
no_bytes [] e = refl
no_bytes (c ∷ text) e = absurd (omega arith)

some_left : (glob text : List ℕ) → glob ≡ [] → (length text ≡ 0 → ⊥) → ¬ StandFor (pieces_of glob) text
some_left glob text e some h =
    let k : text ≡ [] = subst (λ (g : List ℕ). StandFor (pieces_of g) text) e h in
    some (ap length k)

pub returns-in_default-after_byte : goal.returns-in_default-after_byte
returns-in_default-after_byte c =
    bytes_fail c.args.glob.now c.args.text.now c.loop-piece.pieces.now c.loop-piece.rest.now c.loop-piece.invariant.0
    (other_byte c.in-Byte.byte c.loop-piece.pieces.now c.in-Some.after.now c.loop-piece.rest.now
    (c.in-Some.ensures.pieces ∙ ap (λ (p : Piece). p ∷ pieces_of c.in-Some.after.now) c.in-Byte.is) c.in_default-after_byte.ensures)

pub loop-piece-preserved : goal.loop-piece-preserved
loop-piece-preserved c = (
  bytes_more c.args.glob.now c.args.text.now c.loop-piece.pieces.now c.loop-piece.rest.now c.in-Some.after.now c.in-Some-after_byte.left.now c.in-Byte.byte
      c.loop-piece.invariant.0 (c.in-Some.ensures.pieces ∙ ap (λ (p : Piece). p ∷ pieces_of c.in-Some.after.now) c.in-Byte.is) c.in-Some-after_byte.ensures,
  omega (arith, c.in-Some.ensures.shorter, c.loop-piece.invariant.1),
)

pub returns-then-is_empty : goal.returns-then-is_empty
returns-then-is_empty c =
    bytes_whole c.args.glob.now c.args.text.now c.loop-piece.pieces.now c.loop-piece.rest.now c.loop-piece.invariant.0
    (none_left c.loop-piece.pieces.now c.loop-piece.rest.now c.in_default.ensures.pieces
    (no_bytes c.loop-piece.rest.now (eqb-true _ _ (sym c.is_empty.ensures ∙ c.if-is_empty.true))))

pub returns-else-is_empty : goal.returns-else-is_empty
returns-else-is_empty c =
    bytes_fail c.args.glob.now c.args.text.now c.loop-piece.pieces.now c.loop-piece.rest.now c.loop-piece.invariant.0
    (some_left c.loop-piece.pieces.now c.loop-piece.rest.now c.in_default.ensures.pieces (eqb-false _ _ (sym c.is_empty.ensures ∙ c.if-is_empty.false)))

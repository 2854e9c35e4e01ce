use Rattle.std.proofs.Common.{◌≡◌, ℕ, ◌+◌, ◌<◌, List, length, sym, ap, subst, length-append, arith}
use Rattle.zot_names.proofs.TryLemmas.{left_across, left_fail, left_more, left_within}
use Rattle.zot_names.specs.Tries.{BeginsWithOther, IsAfterStar, IsLeft}
use Rattle.zot_names.specs.declared.piece.Piece.{Piece}
use Rattle.zot_names.specs.declared.piece.Piece.TheVariants.{Within}
use Rattle.zot_names.proofs.glob.pass_within.Goals as goal

-- after a star less is left
shorter : (star : Piece) (glob text after rest : List ℕ) → IsAfterStar star glob text after rest → length after + length rest < length glob + length text
shorter star glob text after rest h = let cut = length-append h.bytes rest in let same = ap length h.text_is in omega (arith, h.shorter)

one_less : (text rest : List ℕ) → BeginsWithOther text rest → length rest + 1 ≡ length text
one_less text rest (first, other, e) = let same = ap length e in omega arith

pub loop-after-preserved-in-Within : goal.loop-after-preserved-in-Within
loop-after-preserved-in-Within c =
    let h = c.loop-after.invariant in
    let k = c.in-Within.ensures in (
      left_within c.loop-after.starred c.args.glob.now c.args.text.now c.loop-after.pieces.now c.loop-after.rest.now c.in-Within.after.now c.in-Within.left.now h.0 k,
      omega (arith, h.1, shorter Within c.loop-after.pieces.now c.loop-after.rest.now c.in-Within.after.now c.in-Within.left.now k),
    )

pub returns-in-Across : goal.returns-in-Across
returns-in-Across c =
    let h = c.loop-after.invariant in
    let k = c.in-Across.ensures in (
      left_across c.loop-after.starred c.args.glob.now c.args.text.now c.loop-after.pieces.now c.loop-after.rest.now c.in-Across.after.now c.in-Across.left.now h.0 k,
      omega (arith, h.1, shorter _ c.loop-after.pieces.now c.loop-after.rest.now c.in-Across.after.now c.in-Across.left.now k),
    )

pub returns-in_default : goal.returns-in_default
returns-in_default c =
    let h = subst (λ b. IsLeft Within b c.args.glob.now c.args.text.now c.loop-after.pieces.now c.loop-after.rest.now) c.if-not-starred.false c.loop-after.invariant.0 in
    left_fail c.args.glob.now c.args.text.now c.loop-after.pieces.now c.loop-after.rest.now h c.in-Failed-2.ensures c.in_default.ensures

pub loop-after-preserved : goal.loop-after-preserved
loop-after-preserved c =
    let h = subst (λ b. IsLeft Within b c.args.glob.now c.args.text.now c.loop-after.pieces.now c.loop-after.rest.now) c.if-not-starred.false c.loop-after.invariant.0 in
    let k = left_more c.args.glob.now c.args.text.now c.loop-after.pieces.now c.loop-after.rest.now c.in-Some.left.now h c.in-Failed-2.ensures c.in-Some.ensures in (
      subst (λ b. IsLeft Within b c.args.glob.now c.args.text.now c.loop-after.pieces.now c.in-Some.left.now) (sym c.if-not-starred.false) k,
      omega (arith, c.loop-after.invariant.1, one_less c.loop-after.rest.now c.in-Some.left.now c.in-Some.ensures),
    )

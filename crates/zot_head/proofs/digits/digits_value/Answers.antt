use Rattle.std.proofs.Common.{◌+◌, arith}
use Rattle.std.proofs.lemmas.Int.Digits.{digits_value_more}
use Rattle.zot_head.proofs.DigitLemmas.{digit_more, power_below}
use Rattle.zot_head.proofs.digits.digits_value.Goals as goal

pub overflow_mul-value : goal.overflow_mul-value
overflow_mul-value c =
    let digit = c.requires.digits c.loop-digit.digit-index c.loop-digit-test.true in
    let more = digit_more c.args.radix c.loop-digit.value 0 c.loop-digit.digit-index c.loop-digit.invariant.1 (omega (arith, digit)) in
    omega (arith, more, power_below c.args.radix (c.loop-digit.digit-index + 1) _ (omega (arith, digit)) (omega arith) c.requires.fits)

pub overflow_add-value : goal.overflow_add-value
overflow_add-value c =
    let digit = c.requires.digits c.loop-digit.digit-index c.loop-digit-test.true in
    let more = digit_more c.args.radix c.loop-digit.value c.in-Some.d c.loop-digit.digit-index c.loop-digit.invariant.1 (omega (arith, digit, c.in-Some.ensures.value.0)) in
    omega (arith, more, power_below c.args.radix (c.loop-digit.digit-index + 1) _ (omega (arith, digit)) (omega arith) c.requires.fits)

pub loop-digit-preserved : goal.loop-digit-preserved
loop-digit-preserved c =
    let digit = c.requires.digits c.loop-digit.digit-index c.loop-digit-test.true in
    let more = digit_more c.args.radix c.loop-digit.value c.in-Some.d c.loop-digit.digit-index c.loop-digit.invariant.1 (omega (arith, digit, c.in-Some.ensures.value.0)) in
    (rw (digits_value_more c.args.radix c.args.digits.now c.loop-digit.digit-index c.loop-digit-test.true, ← c.loop-digit.invariant.0, ← c.in-Some.ensures.value.0), more)

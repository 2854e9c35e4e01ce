use Rattle.std.proofs.Common.{sym, ◌∙◌}
use Rattle.zot_head.proofs.DigitLemmas.{digits_small, digits_fit, size_of_some, size_of_empty, size_of_long, size_of_other}
use Rattle.zot_head.proofs.chunk_line.size_of.Goals as goal
use Rattle.zot_head.proofs.chunk_line.size_of.Goals.{then-len-eq0-via-then-len-eq0, then-len-eq0-via-else-len-eq0+then-len-gt-MAX_DIGITS, then-len-eq0-via-else-len-eq0+else-len-gt-MAX_DIGITS+then-not-ends_size}

pub returns-then-len-eq0 : goal.returns-then-len-eq0
returns-then-len-eq0 c =
    let line = c.args.line.now in
    let len = c.hex_len-len.result in
    elim c.then-len-eq0.branch [
      | then-len-eq0-via-then-len-eq0 w ↦ size_of_empty line len c.hex_len-len.ensures w.if-len-eq0.true
      | then-len-eq0-via-else-len-eq0+then-len-gt-MAX_DIGITS w ↦ size_of_long line len c.hex_len-len.ensures w.if-len-gt-MAX_DIGITS.true
      | then-len-eq0-via-else-len-eq0+else-len-gt-MAX_DIGITS+then-not-ends_size w ↦ size_of_other line len c.hex_len-len.ensures (sym w.ends_size.ensures ∙ w.if-not-ends_size.true)
    ]

pub digits_value-requires-clause-digits : goal.digits_value-requires-clause-digits
digits_value-requires-clause-digits c = digits_small c.args.line.now c.hex_len-len.result c.hex_len-len.ensures

pub digits_value-requires-clause-fits : goal.digits_value-requires-clause-fits
digits_value-requires-clause-fits c = digits_fit c.args.line.now c.hex_len-len.result c.hex_len-len.ensures c.if-len-gt-MAX_DIGITS.false

pub returns : goal.returns
returns c =
    size_of_some c.args.line.now c.hex_len-len.result c.hex_len-len.ensures c.digits_value.result c.if-len-eq0.false c.if-len-gt-MAX_DIGITS.false (sym c.ends_size.ensures ∙ c.if-not-ends_size.false) c.digits_value.ensures

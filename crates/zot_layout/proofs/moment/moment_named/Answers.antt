use Rattle.std.proofs.Common.{◌∙◌, ap, sym}
use Rattle.zot_layout.specs.Moments.{are_digits}
use Rattle.zot_layout.proofs.MomentLemmas.{named, parsed}
use Rattle.zot_layout.proofs.moment.moment_named.Goals as goal

pub returns-then-are_digits : goal.returns-then-are_digits
returns-then-are_digits c =
    let digits = sym (c.are_digits.ensures ∙ ap are_digits c.as_bytes.ensures.value) ∙ c.if-are_digits.true in
    named c.args.text.now c.ok.result digits (c.ok.ensures.value ∙ parsed c.args.text.now c.parse.result digits c.parse.ensures.value.0)

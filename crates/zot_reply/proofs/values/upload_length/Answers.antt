use Rattle.std.proofs.Common.{◌-◌, ◌<◌, ◌^◌, ◌∙◌, [], List, Option, ℕ, ap, refl, arith, unwrap_or}
use Rattle.std.specs.Prelude.{codes}
use Rattle.std.specs.Fmt.{decimal}
use Rattle.zot_spell.specs.Fields.{range_text}
use Rattle.zot_reply.proofs.values.upload_length.Goals as goal

pub returns : goal.returns
unfolding range_text
returns c = λ size is has.
    let less : size - 1 < 2 ^ 64 = omega (arith, is) in
    let last = c.number_of.ensures (size - 1) less (c.skip-digits.ensures (codes "0-") (decimal (size - 1)) refl (c.value.ensures ∙ ap (λ (o : Option (List ℕ)). unwrap_or o []) has)) in
    omega (arith, last, is, c.saturating_add.ensures)

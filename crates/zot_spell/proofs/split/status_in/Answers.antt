use Rattle.std.proofs.Common.{◌≡◌, ◌<◌, take, drop, length, ap, ◌∙◌, arith, Some}
use Rattle.http.specs.StatusCode.{code_digits}
use Rattle.zot_spell.proofs.SplitLemmas.{digits_at, same_digits, status_long}
use Rattle.zot_spell.proofs.split.status_in.Goals as goal

pub returns-then-bytes-clause-found : goal.returns-then-bytes-clause-found
returns-then-bytes-clause-found c = λ status rest is e. absurd (omega (arith, c.if-bytes.true, status_long status rest, ap length e))

pub returns-in-Ok-clause-found : goal.returns-in-Ok-clause-found
returns-in-Ok-clause-found c = λ status rest is e.
    let digits : c.split_at-2.result.0.now ≡ code_digits status = c.split_at-2.ensures.front ∙ ap (take 3) (c.split_at.ensures.back ∙ ap (drop 9) e) ∙ digits_at status rest in
    let low : c.in-Ok.status < 1000 = omega (arith, c.as_u16.ensures.value, c.as_u16.ensures.valid) in
    ap Some (c.as_u16.ensures.value ∙ same_digits c.in-Ok.status status low is.1 (c.in-Ok.ensures.ok ∙ digits))

pub returns-in-Err-clause-found : goal.returns-in-Err-clause-found
returns-in-Err-clause-found c = λ status rest is e.
    let digits : c.split_at-2.result.0.now ≡ code_digits status = c.split_at-2.ensures.front ∙ ap (take 3) (c.split_at.ensures.back ∙ ap (drop 9) e) ∙ digits_at status rest in
    cc (c.in-Err.ensures.succeeds.1 (status, is, digits))

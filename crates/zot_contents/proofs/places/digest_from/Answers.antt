use Rattle.std.proofs.Common.{◌∙◌}
use Rattle.zot_contents.proofs.PlaceLemmas.{digits_of_text, no_digits}
use Rattle.zot_contents.proofs.places.digest_from.Goals as goal

pub returns-in-Ok : goal.returns-in-Ok
returns-in-Ok c = (
  c.as_bytes.ensures.digest,
  digits_of_text c.args.digits.now c.in-Ok.digest c.as_str.result.now (c.as_str.ensures.value ∙ c.in_ok-text.ensures.ok) c.in-Ok.ensures.read,
)

pub returns : goal.returns
returns c = no_digits c.args.digits.now c.as_str.result.now (c.as_str.ensures.value ∙ c.in_ok-text.ensures.ok) c.in-Err.ensures.bad

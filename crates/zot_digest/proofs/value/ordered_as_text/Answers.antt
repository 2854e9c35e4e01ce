use Rattle.zot_digest.proofs.OrderLemmas.{text_order}
use Rattle.zot_digest.proofs.value.ordered_as_text.Goals as goal

pub returns : goal.returns
returns c = λ a b is_a is_b. text_order a b is_a.bytes is_b.bytes

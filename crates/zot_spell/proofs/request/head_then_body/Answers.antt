use Rattle.zot_spell.proofs.RequestLemmas.{head_then_body}
use Rattle.zot_spell.proofs.request.head_then_body.Goals as goal

pub returns : goal.returns
returns c = head_then_body

use Rattle.zot_spell.proofs.AlikeLemmas.{head_and_body}
use Rattle.zot_spell.proofs.laws.reply_head_then_body.Goals as goal

pub returns : goal.returns
returns c = head_and_body

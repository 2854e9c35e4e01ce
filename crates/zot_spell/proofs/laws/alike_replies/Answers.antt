use Rattle.zot_spell.proofs.AlikeLemmas.{alike_bytes}
use Rattle.zot_spell.proofs.laws.alike_replies.Goals as goal

pub returns : goal.returns
returns c = alike_bytes

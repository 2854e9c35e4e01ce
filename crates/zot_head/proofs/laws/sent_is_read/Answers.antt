use Rattle.zot_head.proofs.SentLemmas as lemmas
use Rattle.zot_head.proofs.laws.sent_is_read.Goals as goal

pub returns : goal.returns
returns c = lemmas.sent_is_read

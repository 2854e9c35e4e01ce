use Rattle.zot_head.proofs.SentLemmas as lemmas
use Rattle.zot_head.proofs.laws.only_sent_is_read.Goals as goal

pub returns : goal.returns
returns c = lemmas.only_sent_is_read

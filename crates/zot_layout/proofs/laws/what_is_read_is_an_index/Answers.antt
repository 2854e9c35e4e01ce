use Rattle.zot_layout.proofs.OrderLemmas.{meaning_ordered}
use Rattle.zot_layout.proofs.laws.what_is_read_is_an_index.Goals as goal

pub returns : goal.returns
returns c = meaning_ordered

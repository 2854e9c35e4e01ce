use Rattle.zot_session.proofs.WireLemmas.{requests_read}
use Rattle.zot_session.proofs.laws.requests_are_read.Goals as goal

pub returns : goal.returns
returns c = requests_read

use Rattle.zot_config.proofs.OneLemmas.{read_one}
use Rattle.zot_config.proofs.laws.read_is_one.Goals as goal

pub returns : goal.returns
returns c = read_one

use Rattle.zot_names.proofs.ByteLemmas.{name_bytes}
use Rattle.zot_names.proofs.laws.bytes_of_names.Goals as goal

pub returns : goal.returns
returns c = name_bytes

use Rattle.zot_names.proofs.ByteLemmas.{tag_bytes}
use Rattle.zot_names.proofs.laws.bytes_of_tags.Goals as goal

pub returns : goal.returns
returns c = tag_bytes

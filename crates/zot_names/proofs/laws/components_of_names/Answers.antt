use Rattle.zot_names.proofs.NameLemmas.{components_of-name}
use Rattle.zot_names.proofs.laws.components_of_names.Goals as goal

pub returns : goal.returns
returns c = components_of-name

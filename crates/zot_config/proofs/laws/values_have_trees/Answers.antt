use Rattle.zot_config.proofs.TreeLemmas.{tree_of}
use Rattle.zot_config.proofs.laws.values_have_trees.Goals as goal

pub returns : goal.returns
returns c = tree_of

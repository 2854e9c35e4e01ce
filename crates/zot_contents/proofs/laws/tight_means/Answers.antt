use Rattle.zot_contents.proofs.ShardLemmas.{tight_tree}
use Rattle.zot_contents.proofs.laws.tight_means.Goals as goal

pub returns : goal.returns
returns c = tight_tree

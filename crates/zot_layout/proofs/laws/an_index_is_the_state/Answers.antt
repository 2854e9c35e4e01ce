use Rattle.zot_layout.proofs.StandsLemmas.{index_put, without_sizes}
use Rattle.zot_layout.proofs.laws.an_index_is_the_state.Goals as goal

pub returns-clause-put : goal.returns-clause-put
returns-clause-put c = index_put

pub returns-clause-sizes : goal.returns-clause-sizes
returns-clause-sizes c = without_sizes

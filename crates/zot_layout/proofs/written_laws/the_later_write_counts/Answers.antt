use Rattle.zot_layout.proofs.WritingLemmas.{kept_then_set, known_for_nothing, set_then}
use Rattle.zot_layout.proofs.written_laws.the_later_write_counts.Goals as goal

pub returns-clause-set : goal.returns-clause-set
returns-clause-set c = set_then

pub returns-clause-kept : goal.returns-clause-kept
returns-clause-kept c = kept_then_set

pub returns-clause-forgotten : goal.returns-clause-forgotten
returns-clause-forgotten c = known_for_nothing

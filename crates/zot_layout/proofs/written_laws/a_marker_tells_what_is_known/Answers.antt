use Rattle.zot_layout.proofs.WritingLemmas.{known_as_held, stands_known, stands_unknown, unknown_as_held}
use Rattle.zot_layout.proofs.written_laws.a_marker_tells_what_is_known.Goals as goal

pub returns-clause-set : goal.returns-clause-set
returns-clause-set c = λ old new name index sets. known_as_held new name 0 index (sets.here 0)

pub returns-clause-forgotten : goal.returns-clause-forgotten
returns-clause-forgotten c = λ old new name sets. unknown_as_held new name 0 (sets.here 0)

pub returns-clause-known : goal.returns-clause-known
returns-clause-known c = stands_known

pub returns-clause-unknown : goal.returns-clause-unknown
returns-clause-unknown c = stands_unknown

use Rattle.zot_layout.proofs.StandsLemmas.{apart_paths, one_index}
use Rattle.zot_layout.proofs.WalkLemmas.{one_marker}
use Rattle.zot_layout.proofs.laws.a_path_is_of_one_repository.Goals as goal

pub returns-clause-markers : goal.returns-clause-markers
returns-clause-markers c = one_marker

pub returns-clause-indexes : goal.returns-clause-indexes
returns-clause-indexes c = one_index

pub returns-clause-apart : goal.returns-clause-apart
returns-clause-apart c = apart_paths

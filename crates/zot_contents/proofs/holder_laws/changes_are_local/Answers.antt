use Rattle.zot_contents.proofs.HolderLemmas.{with_bytes_beside, with_bytes_here}
use Rattle.zot_contents.proofs.holder_laws.changes_are_local.Goals as goal

pub returns-clause-here : goal.returns-clause-here
returns-clause-here c = with_bytes_here

pub returns-clause-beside : goal.returns-clause-beside
returns-clause-beside c = with_bytes_beside

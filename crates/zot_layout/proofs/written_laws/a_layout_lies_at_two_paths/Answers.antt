use Rattle.zot_layout.proofs.StandsLemmas.{same_layout}
use Rattle.zot_layout.proofs.written_laws.a_layout_lies_at_two_paths.Goals as goal

pub returns : goal.returns
returns c = same_layout

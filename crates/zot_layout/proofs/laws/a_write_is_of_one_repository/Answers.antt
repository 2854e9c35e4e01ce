use Rattle.zot_layout.specs.Rows.{IsOfRow}
use Rattle.zot_layout.proofs.StandsLemmas.{row_written}
use Rattle.zot_layout.proofs.laws.a_write_is_of_one_repository.Goals as goal

pub returns : goal.returns
returns c = λ old new moment members number key row after name path object repo. row_written old new moment (IsOfRow key members number) row after name path object repo

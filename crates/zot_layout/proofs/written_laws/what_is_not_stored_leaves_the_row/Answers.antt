use Rattle.zot_layout.specs.Rows.{IsOfRow}
use Rattle.zot_layout.proofs.WritingLemmas.{told_alike_row}
use Rattle.zot_layout.proofs.written_laws.what_is_not_stored_leaves_the_row.Goals as goal

pub returns : goal.returns
returns c = λ objects moment members number key row later name repo. told_alike_row objects moment (IsOfRow key members number) row later name repo

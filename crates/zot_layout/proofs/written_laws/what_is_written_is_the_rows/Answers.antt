use Rattle.zot_layout.specs.Rows.{IsOfRow}
use Rattle.zot_layout.proofs.WritingLemmas.{told_forgotten_row, told_known_row, told_put_row, told_same_row, told_unmarked_row}
use Rattle.zot_layout.proofs.written_laws.what_is_written_is_the_rows.Goals as goal

pub returns-clause-put : goal.returns-clause-put
returns-clause-put c = λ before after moment members number key row later name index repo.
    told_put_row before after moment (IsOfRow key members number) row name later index repo

pub returns-clause-same : goal.returns-clause-same
returns-clause-same c = λ before after moment members number key row name index.
    told_same_row before after moment (IsOfRow key members number) row name index

pub returns-clause-known : goal.returns-clause-known
returns-clause-known c = λ before after moment members number key row later name index repo.
    told_known_row before after moment (IsOfRow key members number) row name later index repo

pub returns-clause-unmarked : goal.returns-clause-unmarked
returns-clause-unmarked c = λ before after moment members number key row name.
    told_unmarked_row before after moment (IsOfRow key members number) row name

pub returns-clause-forgotten : goal.returns-clause-forgotten
returns-clause-forgotten c = λ before after moment members number key row later name repo.
    told_forgotten_row before after moment (IsOfRow key members number) row name later repo

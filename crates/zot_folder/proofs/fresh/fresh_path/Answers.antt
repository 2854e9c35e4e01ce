use Rattle.zot_folder.proofs.PathLemmas.{beside_alone, beside_in_folder, hidden_in_folder}
use Rattle.zot_folder.proofs.SearchLemmas.{cut_found, plain_text}
use Rattle.zot_folder.proofs.fresh.fresh_path.Goals as goal

pub returns-in-Some-clause-hidden : goal.returns-in-Some-clause-hidden
returns-in-Some-clause-hidden c = hidden_in_folder c.hidden_in.result _ _ c.hidden_in.ensures

pub returns-in-Some-clause-beside : goal.returns-in-Some-clause-beside
returns-in-Some-clause-beside c =
    let cut = c.in-Some.cut in
    beside_in_folder c.hidden_in.result c.args.path.now cut.0.now cut.1.now _ (cut_found c.args.path.now cut.0.now cut.1.now c.in-Some.ensures.cases) c.hidden_in.ensures

pub returns-clause-beside : goal.returns-clause-beside
returns-clause-beside c = beside_alone c.hidden.result c.args.path.now _ (plain_text c.args.path.now c.in-None.ensures.cases) c.hidden.ensures

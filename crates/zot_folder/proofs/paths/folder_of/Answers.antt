use Rattle.zot_folder.proofs.SearchLemmas.{folder_found, no_folder_found}
use Rattle.zot_folder.proofs.paths.folder_of.Goals as goal

pub returns-in-Some : goal.returns-in-Some
returns-in-Some c = folder_found c.args.path.now c.in-Some.cut.0.now c.in-Some.cut.1.now c.in-Some.ensures.cases

pub returns-in-None : goal.returns-in-None
returns-in-None c = no_folder_found c.args.path.now c.in-None.ensures.cases

use Rattle.std.proofs.Common.{rules, true, false}
use Rattle.zot_folder.proofs.SearchLemmas.{folder_parent, own_parent, root_parent}
use Rattle.zot_folder.proofs.folders.parent_of.Goals as goal

pub returns-in-Some : goal.returns-in-Some
returns-in-Some c = root_parent c.args.path.now c.in-Some.cut.0.now c.in-Some.cut.1.now (search rules) c.in-Some.ensures.cases

pub returns-in-Some-2 : goal.returns-in-Some-2
returns-in-Some-2 c = folder_parent c.args.path.now c.in-Some.cut.0.now c.in-Some.cut.1.now (search rules) c.in-Some.ensures.cases

pub returns-in-None : goal.returns-in-None
returns-in-None c = own_parent c.args.path.now c.in-None.ensures.cases

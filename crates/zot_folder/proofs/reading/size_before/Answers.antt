use Rattle.std.proofs.Common.{rules, None, Some}
use Rattle.zot_folder.proofs.TreeLemmas.{sized}
use Rattle.zot_folder.specs.declared.tree.Kind.TheVariants.{File}
use Rattle.zot_folder.proofs.reading.size_before.Goals as goal

pub returns-in-Some-File-clause-size : goal.returns-in-Some-File-clause-size
returns-in-Some-File-clause-size g c = sized (g.T.Tree.files c.args.tree.now) c.args.path.now (Some (File c.in-Some-File.size)) (search rules) (search rules)

pub returns-in-None-clause-size : goal.returns-in-None-clause-size
returns-in-None-clause-size g c = sized (g.T.Tree.files c.args.tree.now) c.args.path.now None (search rules) (search rules)

use Rattle.std.proofs.Common.{rules}
use Rattle.zot_folder.proofs.TreeLemmas.{read_of_object}
use Rattle.zot_folder.proofs.reading.read_object.Goals as goal

pub returns-in_ok-read-in-Some-clause-read : goal.returns-in_ok-read-in-Some-clause-read
returns-in_ok-read-in-Some-clause-read g c = read_of_object (g.T.Tree.files c.args.tree.now) c.args.path.now c.args.at c.read.new.buf c.in_ok-read-in-Some.field-0 (search rules) (search rules)

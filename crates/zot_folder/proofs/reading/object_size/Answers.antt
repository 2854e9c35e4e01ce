use Rattle.std.proofs.Common.{rules}
use Rattle.zot_folder.proofs.TreeLemmas.{missing_nowhere, sized}
use Rattle.zot_folder.specs.Trees.{HasSizeOrNone, objects_of}
use Rattle.std.proofs.Common.{subst, sym}
use Rattle.zot_folder.proofs.reading.object_size.Goals as goal

pub returns-then-not-names_object-clause-size : goal.returns-then-not-names_object-clause-size
returns-then-not-names_object-clause-size g c = missing_nowhere (g.T.Tree.files c.args.tree.now) c.args.path.now (search rules)

pub returns-clause-size : goal.returns-clause-size
returns-clause-size g c =
    let files = g.T.Tree.files c.args.tree.now in
    subst (λ r. HasSizeOrNone (objects_of files) c.args.path.now r) (sym c.file_size.ensures) (sized files c.args.path.now c.in_ok-found.found (search rules) c.in_ok-found.ensures.shows)

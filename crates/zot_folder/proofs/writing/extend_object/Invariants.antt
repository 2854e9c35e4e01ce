use Rattle.zot_folder.specs.Trees.{objects_of}
use Rattle.zot_outside.specs.Objects.{Keeps}
use Rattle.zot_folder.proofs.writing.extend_object.Given as goal

-- no object changed
abbrev pub invariant-loop : goal.invariant-loop
invariant-loop g l = Keeps (objects_of (g.T.Tree.files l.initial.tree)) (objects_of (g.T.Tree.files l.tree))

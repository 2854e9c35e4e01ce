use Rattle.std.proofs.Common.{◌≡◌, ◌≢◌, IfSome, string_bytes}
use Rattle.std.specs.declared.cmp.Ordering.TheVariants.{Greater}
use Rattle.zot_folder.proofs.NextLemmas.{Stands}
use Rattle.zot_folder.specs.Trees.{objects_of}
use Rattle.zot_outside.specs.Objects.{Keeps, path_cmp}
use Rattle.zot_folder.proofs.walk.next_file.Given as goal

-- the files are as before, the walk has come to the path that was asked, and the search stands behind it
abbrev pub invariant-loop : goal.invariant-loop
invariant-loop g l =
    let files = g.T.Tree.files in
    Keeps (files l.fn.tree) (files l.tree) × (string_bytes l.walk.since ≡ l.after) × (path_cmp l.after (string_bytes l.spot.bound) ≢ Greater) × IfSome (objects_of (files l.fn.tree)) (Stands l.fn.walk l.after l.spot l.walk)

use Rattle.zot_folder.proofs.CopyLemmas.{Moved}
use Rattle.zot_folder.proofs.files.copy_by.Given as goal

-- what was taken from the reader was added to the writer
abbrev pub invariant-loop : goal.invariant-loop
invariant-loop g l = Moved (g.S.Read.remaining l.fn.source) (g.W.Write.contents l.fn.sink) (g.S.Read.remaining l.source) (g.W.Write.contents l.sink)

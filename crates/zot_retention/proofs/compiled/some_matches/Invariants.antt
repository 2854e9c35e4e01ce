use Rattle.std.proofs.Common.{take}
use Rattle.std.specs.List.{All}
use Rattle.zot_names.specs.Glob.{Matches}
use Rattle.zot_retention.proofs.compiled.some_matches.Given as goal

abbrev pub invariant-loop-glob : goal.invariant-loop-glob
invariant-loop-glob l = All (λ glob. ¬ Matches glob l.name) (take l.glob-index l.globs)

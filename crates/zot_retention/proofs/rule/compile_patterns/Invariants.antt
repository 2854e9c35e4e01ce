use Rattle.std.proofs.Common.{◌≡◌, take}
use Rattle.std.specs.List.{All}
use Rattle.zot_retention.specs.Patterns.{IsPattern}
use Rattle.zot_retention.proofs.rule.compile_patterns.Given as goal

abbrev pub invariant-loop-place : goal.invariant-loop-place
invariant-loop-place l = (l.built.items ≡ take l.place l.texts) × All IsPattern (take l.place l.texts)

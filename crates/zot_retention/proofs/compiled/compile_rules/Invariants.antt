use Rattle.std.proofs.Common.{◌≡◌, take}
use Rattle.std.specs.List.{All}
use Rattle.zot_retention.specs.Policies.{HasPatterns}
use Rattle.zot_retention.proofs.compiled.compile_rules.Given as goal

abbrev pub invariant-loop-place : goal.invariant-loop-place
invariant-loop-place l = (l.built.items ≡ take l.place l.rules) × All HasPatterns (take l.place l.rules)

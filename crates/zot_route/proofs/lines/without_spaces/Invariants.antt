use Rattle.std.proofs.Common.{◌≡◌, ◌++◌, ◌==◌, not, drop}
use Rattle.std.specs.List.{filter}
use Rattle.zot_route.proofs.lines.without_spaces.Given as goal

abbrev pub invariant-loop-byte : goal.invariant-loop-byte
invariant-loop-byte l = filter (λ b. not (b == 32)) l.bytes ≡ l.kept.items ++ filter (λ b. not (b == 32)) (drop l.byte-index l.bytes)

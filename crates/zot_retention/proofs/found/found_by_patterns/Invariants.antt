use Rattle.std.proofs.Common.{◌≡◌, ◌||◌, ◌==◌, length, map, take}
use Rattle.std.specs.List.{list_any}
use Rattle.zot_retention.specs.Patterns.{finds}
use Rattle.zot_retention.proofs.found.found_by_patterns.Given as goal

abbrev pub invariant-loop-pattern : goal.invariant-loop-pattern
invariant-loop-pattern l =
    l.found.items ≡ map (λ row. (length l.patterns == 0) || list_any (λ pattern. finds pattern row.tag) (take l.pattern-index l.patterns)) l.tags

use Rattle.std.proofs.Common.{◌≡◌, map, take}
use Rattle.std.specs.List.{list_any}
use Rattle.zot_retention.specs.Kept.{is_kept_by}
use Rattle.zot_retention.proofs.kept.kept_by_rules.Given as goal

abbrev pub invariant-loop-rule : goal.invariant-loop-rule
invariant-loop-rule l =
    l.kept.items ≡ map (λ row. list_any (λ rule. is_kept_by rule l.tags l.moment row) (take l.rule-index l.rules)) l.tags

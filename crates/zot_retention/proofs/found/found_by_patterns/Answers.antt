use Rattle.std.proofs.Common.{◌||◌, ◌==◌, length, take, ◌∙◌}
use Rattle.std.specs.List.{list_any}
use Rattle.zot_retention.specs.Patterns.{finds}
use Rattle.zot_retention.specs.declared.tag_row.TagRow.{TagRow}
use Rattle.zot_retention.proofs.MarkLemmas.{one_more_item}
use Rattle.zot_retention.proofs.found.found_by_patterns.Goals as goal

pub loop-pattern-preserved : goal.loop-pattern-preserved
loop-pattern-preserved c =
    let patterns = c.args.patterns.now in
    let none = length patterns == 0 in
    c.in_ok-found-2.ensures (λ row. none || list_any (λ pattern. finds pattern row.tag) (take c.loop-pattern.pattern-index patterns))
    (c.as_slice.ensures.value ∙ c.loop-pattern.invariant)
    ∙ one_more_item (λ pattern (row : TagRow). finds pattern row.tag) none patterns c.loop-pattern.pattern-index c.pattern-item.result c.args.tags.now
    c.loop-pattern-test.true c.pattern-item.is

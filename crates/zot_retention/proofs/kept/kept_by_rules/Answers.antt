use Rattle.std.proofs.Common.{false, take, ◌∙◌}
use Rattle.std.specs.List.{list_any}
use Rattle.zot_retention.specs.Kept.{is_kept_by}
use Rattle.zot_retention.proofs.MarkLemmas.{one_more_item}
use Rattle.zot_retention.proofs.kept.kept_by_rules.Goals as goal

pub loop-rule-preserved : goal.loop-rule-preserved
loop-rule-preserved c =
    let tags = c.args.tags.now in
    let rules = c.args.rules.now in
    c.in_ok-kept-2.ensures (λ row. list_any (λ rule. is_kept_by rule tags c.args.moment row) (take c.loop-rule.rule-index rules))
    (c.as_slice.ensures.value ∙ c.loop-rule.invariant)
    ∙ one_more_item (λ rule. is_kept_by rule tags c.args.moment) false rules c.loop-rule.rule-index c.rule-item.result tags
    c.loop-rule-test.true c.rule-item.is

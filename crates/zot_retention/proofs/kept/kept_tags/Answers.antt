use Rattle.std.proofs.Common.{◌∙◌, sym, subst}
use Rattle.zot_retention.specs.Kept.{Ascend, is_kept}
use Rattle.zot_retention.proofs.KeptLemmas.{ascend-filter}
use Rattle.zot_retention.proofs.kept.kept_tags.Goals as goal

pub returns-clause-ascend : goal.returns-clause-ascend
returns-clause-ascend c = λ up.
    let tags = c.args.tags.now in
    let test = is_kept c.args.policy.now tags c.args.moment in
    subst (λ found. Ascend found) (sym (c.in_ok-found.ensures test (c.as_slice.ensures.value ∙ c.in_ok-kept.ensures))) (ascend-filter test tags up)

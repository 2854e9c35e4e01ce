use Rattle.std.proofs.Common.{nat_lt, ap, ◌∙◌}
use Rattle.zot_retention.specs.Ranks.{count_before}
use Rattle.zot_retention.proofs.RankLemmas.{count_of_pushes}
use Rattle.zot_retention.proofs.first.First.of.Goals as goal

pub returns : goal.returns
returns c = λ test e row.
    rw c.in-Some.is
    (c.first_of.ensures row
    ∙ ap (λ pushes. nat_lt (count_before row pushes) c.in-Some.count) c.as_slice.ensures.value
    ∙ ap (λ rank. nat_lt rank c.in-Some.count)
    (count_of_pushes test c.args.tags.now _ _ row (c.in_ok-pushes.ensures test e) c.in_ok-sort.ensures.permutation))

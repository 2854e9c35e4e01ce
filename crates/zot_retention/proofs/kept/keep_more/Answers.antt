use Rattle.std.proofs.Common.{◌||◌, ◌&&◌, ◌++◌, ◌∷◌, [], not, is_some, ap, ap₂, sym, ◌∙◌, Bool, List}
use Rattle.zot_retention.specs.Kept.{is_first, is_found, is_kept_by, is_recent, rank}
use Rattle.zot_retention.proofs.MarkLemmas.{mark_at, one_further}
use Rattle.zot_retention.proofs.kept.keep_more.Goals as goal

pub loop-place-preserved : goal.loop-place-preserved
loop-place-preserved c = λ test e.
    let rule = c.args.rule.now in
    let tags = c.args.tags.now in
    let place = c.loop-place.place in
    let row = c.index-tags-place.result in
    let is = c.index-tags-place.is in
    let within = c.loop-place-test.true in
    let first = c.in_ok-first.ensures (is_found rule) (c.as_slice.ensures.value ∙ c.in_ok-found.ensures) row
    ∙ ap (λ count. is_first count (rank rule tags row)) c.count.ensures in
    c.in_ok-push.ensures.items
    ∙ ap₂ (λ (more : List Bool) mark. more ++ (mark ∷ [])) (c.loop-place.invariant test e)
    (c.is_marked.ensures
    ∙ ap₂ (λ mark meets. mark || meets) (mark_at test tags _ place row _ e within is)
    (ap₂ (λ found meets. found && meets)
    (c.index.ensures ∙ mark_at (is_found rule) tags _ place row _ c.in_ok-found.ensures within is)
    (c.meets-meets.ensures
    ∙ ap (λ yes_first. not (is_some rule.count || is_some rule.within) || (yes_first || is_recent rule.within c.args.moment row.pushed)) first)))
    ∙ sym (one_further (λ other. test other || is_kept_by rule tags c.args.moment other) tags place row within is)

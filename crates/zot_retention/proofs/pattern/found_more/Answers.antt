use Rattle.std.proofs.Common.{◌||◌, ◌++◌, ◌∷◌, [], ap, ap₂, sym, subst, ◌∙◌, map, get_or, Bool, List, arith}
use Rattle.std.proofs.lemmas.List.{take_all}
use Rattle.zot_retention.specs.Patterns.{FindsAs, finds}
use Rattle.zot_retention.specs.declared.tag_row.TagRow.{TagRow}
use Rattle.zot_retention.proofs.MarkLemmas.{mark_at, one_further}
use Rattle.zot_retention.proofs.pattern.found_more.Goals as goal

pub loop-place-preserved : goal.loop-place-preserved
loop-place-preserved c =
    let tags = c.args.tags.now in
    let place = c.loop-place.place in
    let row = c.index-tags-place.result in
    let is = c.index-tags-place.is in (
      c.is_found.ensures.same ∙ c.loop-place.invariant.0,
      λ pattern test alike e.
          c.in_ok-push.ensures.items
          ∙ ap₂ (λ (more : List Bool) mark. more ++ (mark ∷ [])) (c.loop-place.invariant.1 pattern test alike e)
          (c.is_found.ensures.found pattern (subst (λ re. FindsAs re pattern) (sym c.loop-place.invariant.0) alike)
          ∙ ap (λ mark. mark || finds pattern (get_or tags place row).tag) (mark_at test tags _ place row _ e c.loop-place-test.true is)
          ∙ ap (λ (other : TagRow). test row || finds pattern other.tag) (sym is))
          ∙ sym (one_further (λ other. test other || finds pattern other.tag) tags place row c.loop-place-test.true is),
    )

pub returns : goal.returns
returns c = λ pattern test alike e.
    c.loop-place.invariant.1 pattern test alike e
    ∙ ap (map (λ (row : TagRow). test row || finds pattern row.tag)) (take_all c.loop-place.place c.args.tags.now (omega (arith, c.loop-place-test.false)))

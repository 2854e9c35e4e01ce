use Rattle.std.proofs.Common.{◌++◌, ◌∷◌, [], List, ℕ, map, ap, ap₂, sym, ◌∙◌}
use Rattle.std.proofs.lemmas.List.{map_push}
use Rattle.zot_collect.proofs.TestLemmas.{marked_one, unmarked_one}
use Rattle.zot_retention.specs.declared.tag_row.TagRow.{TagRow}
use Rattle.zot_collect.proofs.leftover.unmarked_tags.Goals.{then-not-marks-place+in_ok-copy+in_ok-push, else-not-marks-place}
use Rattle.zot_collect.proofs.leftover.unmarked_tags.Goals as goal

pub loop-place-preserved : goal.loop-place-preserved
loop-place-preserved c = λ test e.
    let tags = c.args.tags.now in
    let place = c.loop-place.place in
    let within = c.loop-place-test.true in
    elim c.if-not-marks-place.branch [
      | then-not-marks-place+in_ok-copy+in_ok-push w ↦
          let row = w.index-tags-place.result in
          let is = w.index-tags-place.is in
          rw (w.gone-is, w.in_ok-push.ensures.items)
          (ap₂ (λ (gone : List (List ℕ)) tag. gone ++ (tag ∷ [])) (c.loop-place.invariant test e)
          (w.in_ok-copy.ensures ∙ ap (λ (other : TagRow). other.tag) (sym is))
          ∙ sym (ap (map (λ (other : TagRow). other.tag)) (unmarked_one test tags _ place row _ e within is w.if-not-marks-place.true)
          ∙ map_push (λ (other : TagRow). other.tag) _ row))
      | else-not-marks-place w ↦
          rw w.gone-is
          (c.loop-place.invariant test e
          ∙ ap (map (λ (other : TagRow). other.tag)) (sym (marked_one test tags _ place _ e within w.if-not-marks-place.false)))
    ]

use Rattle.std.proofs.Common.{◌++◌, ◌∷◌, [], List, ℕ, map, ap, ap₂, sym, ◌∙◌}
use Rattle.std.proofs.lemmas.List.{map_push}
use Rattle.zot_retention.specs.declared.tag_row.TagRow.{TagRow}
use Rattle.zot_retention.proofs.MarkLemmas.{marked_row, passed_row}
use Rattle.zot_retention.proofs.marks.marked.Goals.{then-marks-place+in_ok-copy+in_ok-push, else-marks-place}
use Rattle.zot_retention.proofs.marks.marked.Goals as goal

pub loop-place-preserved : goal.loop-place-preserved
loop-place-preserved c = λ test e.
    let tags = c.args.tags.now in
    let place = c.loop-place.place in
    let within = c.loop-place-test.true in
    elim c.if-marks-place.branch [
      | then-marks-place+in_ok-copy+in_ok-push w ↦
          let row = w.index-tags-place.result in
          let is = w.index-tags-place.is in
          rw (w.found-is, w.in_ok-push.ensures.items)
          (ap₂ (λ (found : List (List ℕ)) tag. found ++ (tag ∷ [])) (c.loop-place.invariant test e)
          (w.in_ok-copy.ensures ∙ ap (λ (other : TagRow). other.tag) (sym is))
          ∙ sym (ap (map (λ (other : TagRow). other.tag)) (marked_row test tags _ place row _ e within is w.if-marks-place.true)
          ∙ map_push (λ (other : TagRow). other.tag) _ row))
      | else-marks-place w ↦
          rw w.found-is
          (c.loop-place.invariant test e
          ∙ ap (map (λ (other : TagRow). other.tag)) (sym (passed_row test tags _ place _ e within w.if-marks-place.false)))
    ]

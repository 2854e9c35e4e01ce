use Rattle.std.proofs.Common.{◌++◌, ◌∷◌, [], List, map, ap, ap₂, sym, ◌∙◌}
use Rattle.std.proofs.lemmas.List.{map_push}
use Rattle.zot_retention.specs.Ranks.{Key, key_of, key_of_row}
use Rattle.zot_retention.proofs.MarkLemmas.{marked_row, passed_row}
use Rattle.zot_retention.proofs.first.pushes_of.Goals.{then-marks-place+in_ok-push, else-marks-place}
use Rattle.zot_retention.proofs.first.pushes_of.Goals as goal

pub loop-place-preserved : goal.loop-place-preserved
loop-place-preserved c = λ test e.
    let tags = c.args.tags.now in
    let place = c.loop-place.place in
    let within = c.loop-place-test.true in
    elim c.if-marks-place.branch [
      | then-marks-place+in_ok-push w ↦
          let row = w.index-tags-place.result in
          let is = w.index-tags-place.is in
          rw (w.pushes-is, w.in_ok-push.ensures.items)
          (map_push key_of c.loop-place.pushes.items w.of.result
          ∙ ap₂ (λ (keys : List Key) key. keys ++ (key ∷ [])) (c.loop-place.invariant test e) w.of.ensures
          ∙ sym (ap (map key_of_row) (marked_row test tags _ place row _ e within is w.if-marks-place.true)
          ∙ map_push key_of_row _ row))
      | else-marks-place w ↦
          rw w.pushes-is
          (c.loop-place.invariant test e ∙ ap (map key_of_row) (sym (passed_row test tags _ place _ e within w.if-marks-place.false)))
    ]

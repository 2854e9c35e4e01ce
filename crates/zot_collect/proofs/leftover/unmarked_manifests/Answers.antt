use Rattle.std.proofs.Common.{◌++◌, ◌∷◌, [], List, ℕ, map, ap, ap₂, sym, ◌∙◌}
use Rattle.std.proofs.lemmas.List.{map_push}
use Rattle.zot_collect.proofs.TestLemmas.{marked_one, unmarked_one}
use Rattle.zot_model.specs.declared.manifest_row.ManifestRow.{ManifestRow}
use Rattle.zot_collect.proofs.leftover.unmarked_manifests.Goals.{then-not-marks-place+in_ok-push, else-not-marks-place}
use Rattle.zot_collect.proofs.leftover.unmarked_manifests.Goals as goal

pub loop-place-preserved : goal.loop-place-preserved
loop-place-preserved c = λ test e.
    let rows = c.args.manifests.now in
    let place = c.loop-place.place in
    let within = c.loop-place-test.true in
    elim c.if-not-marks-place.branch [
      | then-not-marks-place+in_ok-push w ↦
          let row = w.index-manifests-place.result in
          let is = w.index-manifests-place.is in
          rw (w.gone-is, w.in_ok-push.ensures.items)
          (ap₂ (λ (gone : List (List ℕ)) digest. gone ++ (digest ∷ [])) (c.loop-place.invariant test e)
          (ap (λ (other : ManifestRow). other.digest) (sym is))
          ∙ sym (ap (map (λ (other : ManifestRow). other.digest)) (unmarked_one test rows _ place row _ e within is w.if-not-marks-place.true)
          ∙ map_push (λ (other : ManifestRow). other.digest) _ row))
      | else-not-marks-place w ↦
          rw w.gone-is
          (c.loop-place.invariant test e
          ∙ ap (map (λ (other : ManifestRow). other.digest)) (sym (marked_one test rows _ place _ e within w.if-not-marks-place.false)))
    ]

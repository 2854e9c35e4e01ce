use Rattle.std.proofs.Common.{◌∙◌, ◌||◌, ap, sym}
use Rattle.std.specs.BTreeSet.{contains}
use Rattle.std.specs.Str.{bytes_eq}
use Rattle.zot_collect.proofs.TestLemmas.{any_with, any_without}
use Rattle.zot_digest.specs.ByteMap.{byte_cmp}
use Rattle.zot_retention.proofs.MarkLemmas.{mark_at}
use Rattle.zot_retention.specs.declared.tag_row.TagRow.{TagRow}
use Rattle.zot_collect.proofs.roots.tagged_by.Goals.{then-marks-place+in_ok-add, else-marks-place}
use Rattle.zot_collect.proofs.roots.tagged_by.Goals as goal

pub loop-place-preserved : goal.loop-place-preserved
loop-place-preserved c = λ test e digest.
    let tags = c.args.tags.now in
    let place = c.loop-place.place in
    let within = c.loop-place-test.true in
    let here = λ (row : TagRow). bytes_eq row.digest digest in
    elim c.if-marks-place.branch [
      | then-marks-place+in_ok-add w ↦
          rw w.tagged-is
          (any_with test here tags place w.index-tags-place.result _ _ within w.index-tags-place.is
          (sym (mark_at test tags _ place w.index-tags-place.result _ e within w.index-tags-place.is) ∙ w.if-marks-place.true)
          (c.loop-place.invariant test e digest) (w.in_ok-add.ensures digest ∙ ap (λ (row : TagRow). contains byte_cmp c.loop-place.tagged digest || bytes_eq row.digest digest) (sym w.index-tags-place.is)))
      | else-marks-place w ↦
          rw w.tagged-is
          (any_without test here tags place _ within (λ row is. sym (mark_at test tags _ place row _ e within is) ∙ w.if-marks-place.false)
          (c.loop-place.invariant test e digest))
    ]

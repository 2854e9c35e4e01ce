use Rattle.std.proofs.Common.{◌∙◌, sym, refl, length, arith}
use Rattle.std.specs.BTreeSet.{contains}
use Rattle.std.proofs.lemmas.Option.{slice_get_read, slice_get_within}
use Rattle.zot_collect.proofs.SpreadLemmas.{roots_grow, roots_with, roots_without}
use Rattle.zot_model.specs.Retire.{is_root}
use Rattle.zot_digest.specs.ByteMap.{byte_cmp}
use Rattle.zot_collect.proofs.roots.mark_roots.Goals.{then-is_root+in_ok-mark, else-is_root}
use Rattle.zot_collect.proofs.roots.mark_roots.Goals as goal

pub loop-place-preserved : goal.loop-place-preserved
loop-place-preserved c =
    let rows = c.args.manifests.now in
    let place = c.loop-place.place in
    let row = c.index-manifests-place.result in
    let root = is_root (contains byte_cmp c.args.tagged.now) c.args.moment c.args.delay in
    let at = slice_get_read rows (length rows) place row refl c.loop-place-test.true c.index-manifests-place.is in
    elim c.if-is_root.branch [
      | then-is_root+in_ok-mark w ↦
          rw w.state-is
          (record {
            grows = roots_grow root rows c.args.state.now c.loop-place.state w.mark.new.self place row at (sym c.is_root.ensures ∙ w.if-is_root.true)
                c.loop-place.invariant.grows w.in_ok-mark.ensures.grows;
            all = roots_with root rows c.loop-place.state w.mark.new.self place c.loop-place.invariant.all w.in_ok-mark.ensures.grows w.in_ok-mark.ensures.marked;
          })
      | else-is_root w ↦
          rw w.state-is
          (record {
            grows = c.loop-place.invariant.grows;
            all = roots_without root rows c.loop-place.state place row at (sym c.is_root.ensures ∙ w.if-is_root.false) c.loop-place.invariant.all;
          })
    ]

pub returns : goal.returns
returns c = record {
  grows = c.loop-place.invariant.grows;
  all = λ place row at is. c.loop-place.invariant.all place row (omega (arith, c.loop-place-test.false, slice_get_within c.args.manifests.now place row at)) at is;
}

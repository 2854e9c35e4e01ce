use Rattle.std.proofs.Common.{◌∙◌, sym, refl, arith, true≢false}
use Rattle.zot_collect.proofs.PlaceLemmas.{not_rising, rise_more, rise_to_end}
use Rattle.zot_collect.proofs.order.are_in_order.Goals as goal

pub returns-then-not-is_before : goal.returns-then-not-is_before
returns-then-not-is_before c = (
  λ h. absurd (true≢false (sym h)),
  λ up. absurd (not_rising c.args.manifests.now c.loop-place.place c.index-manifests-place.result c.index-manifests-place-in-loop-place.result
      c.loop-place.auto.place c.loop-place-test.true c.index-manifests-place.is c.index-manifests-place-in-loop-place.is
      (sym c.is_before.ensures ∙ c.if-not-is_before.true) up),
)

pub loop-place-preserved : goal.loop-place-preserved
loop-place-preserved c =
    rise_more c.args.manifests.now c.loop-place.place c.index-manifests-place.result c.index-manifests-place-in-loop-place.result
    c.loop-place.auto.place c.loop-place-test.true c.index-manifests-place.is c.index-manifests-place-in-loop-place.is
    (sym c.is_before.ensures ∙ c.if-not-is_before.false) c.loop-place.invariant

pub returns : goal.returns
returns c = (
  λ _. rise_to_end c.args.manifests.now c.loop-place.place (omega (arith, c.loop-place-test.false)) c.loop-place.invariant,
  λ _. refl,
)

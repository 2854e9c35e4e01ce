use Rattle.std.proofs.Common.{◌≡◌, ◌++◌, ◌∷◌, [], List, ℕ, ap₂, sym, subst, ◌∙◌}
use Rattle.zot_retention.specs.Patterns.{IsPattern}
use Rattle.zot_retention.proofs.PlaceLemmas.{one_more, one_taken}
use Rattle.zot_retention.proofs.rule.compile_patterns.Goals as goal

pub loop-place-preserved : goal.loop-place-preserved
loop-place-preserved c =
    let texts = c.args.texts.now in
    let place = c.loop-place.place in
    let text = c.index-texts-place.result in
    let is = c.index-texts-place.is in
    let shown = c.as_str.ensures in
    let same : c.as_str.result.now ≡ text = cc in (
      c.in-Ok-push.ensures.items
          ∙ ap₂ (λ (built : List (List ℕ)) pattern. built ++ (pattern ∷ [])) c.loop-place.invariant.0 (c.in-Ok.ensures.pattern ∙ same)
          ∙ sym (one_taken texts place text c.loop-place-test.true is),
      one_more IsPattern texts place text c.loop-place-test.true is (subst (λ read. IsPattern read) same c.in-Ok.ensures.read) c.loop-place.invariant.1,
    )

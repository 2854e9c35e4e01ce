use Rattle.std.proofs.Common.{◌≡◌, ◌++◌, ◌∷◌, [], List, ap, ap₂, sym, subst, ◌∙◌, Err}
use Rattle.zot_retention.specs.Policies.{HasPatterns, IsRefusedIn}
use Rattle.zot_retention.specs.declared.keep.Keep.{Keep}
use Rattle.zot_retention.specs.declared.pattern_error.PatternError.TheVariants.{Pattern}
use Rattle.zot_retention.proofs.PlaceLemmas.{first_at, one_more, one_taken}
use Rattle.zot_retention.proofs.compiled.compile_rules.Goals as goal

pub returns-in-Err-clause-refused : goal.returns-in-Err-clause-refused
returns-in-Err-clause-refused c = λ rule pattern e.
    let keep = c.index-rules-place.result in
    let same : c.at_rule.result ≡ Pattern rule pattern = cc in
    let placed = c.at_rule.ensures rule pattern same in
    first_at HasPatterns (λ other. IsRefusedIn other pattern) c.args.rules.now c.loop-place.place rule keep placed.0
    c.loop-place-test.true c.index-rules-place.is
    (c.in-Err.ensures.refused placed.1.0 pattern (ap Err placed.1.1))
    c.loop-place.invariant.1

pub loop-place-preserved : goal.loop-place-preserved
loop-place-preserved c =
    let rules = c.args.rules.now in
    let place = c.loop-place.place in
    let keep = c.index-rules-place.result in
    let is = c.index-rules-place.is in
    let built = c.in-Ok.ensures.built in
    let same : c.in-Ok.rule ≡ keep = cc in
    let readable = subst (λ other. HasPatterns other) (sym built) c.in-Ok.ensures.read in (
      c.in-Ok-push.ensures.items
          ∙ ap₂ (λ (rules_built : List Keep) rule. rules_built ++ (rule ∷ [])) c.loop-place.invariant.0 same
          ∙ sym (one_taken rules place keep c.loop-place-test.true is),
      one_more HasPatterns rules place keep c.loop-place-test.true is (subst (λ other. HasPatterns other) same readable) c.loop-place.invariant.1,
    )

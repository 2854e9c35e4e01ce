use Rattle.std.proofs.Common.{sym, subst, ◌∙◌, true≢false, arith}
use Rattle.std.specs.List.{All}
use Rattle.std.proofs.lemmas.List.{take_all}
use Rattle.zot_retention.specs.Policies.{IsFor}
use Rattle.zot_retention.proofs.PlaceLemmas.{one_more}
use Rattle.zot_retention.proofs.compiled.policy_for.Goals as goal

pub loop-policy-preserved : goal.loop-policy-preserved
loop-policy-preserved c =
    one_more (λ policy. ¬ IsFor c.args.name.now policy) c.args.policies.now c.loop-policy.policy-index c.policy-item.result
    c.loop-policy-test.true c.policy-item.is
    (λ is_for. true≢false (sym (c.is_for.ensures.1 is_for) ∙ c.if-is_for.false))
    c.loop-policy.invariant

pub returns : goal.returns
returns c =
    subst (λ policies. All (λ policy. ¬ IsFor c.args.name.now policy) policies)
    (take_all c.loop-policy.policy-index c.args.policies.now (omega (arith, c.loop-policy-test.false))) c.loop-policy.invariant

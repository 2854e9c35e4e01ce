use Rattle.std.proofs.Common.{take}
use Rattle.std.specs.List.{All}
use Rattle.zot_retention.specs.Policies.{IsFor}
use Rattle.zot_retention.proofs.compiled.policy_for.Given as goal

abbrev pub invariant-loop-policy : goal.invariant-loop-policy
invariant-loop-policy l = All (λ policy. ¬ IsFor l.name policy) (take l.policy-index l.policies)

use Rattle.zot_route.proofs.LineLemmas.{found, no_more, passed}
use Rattle.zot_route.proofs.pairs.value.Goals as goal

pub returns-then-branch : goal.returns-then-branch
returns-then-branch c = found c.args.key.now _ _ c.in-Some.name.now c.in-Some.value.now _ c.in_ok-read_value.field-0 c.in_ok-is_key.field-0 c.loop-name.invariant c.in-Some.ensures.steps c.in_ok-is_key.ensures c.if-branch.true c.in_ok-read_value.ensures

pub loop-name-preserved : goal.loop-name-preserved
loop-name-preserved c = passed c.args.key.now _ _ c.in-Some.name.now c.in-Some.value.now _ c.in_ok-is_key.field-0 c.loop-name.invariant c.in-Some.ensures.steps c.in_ok-is_key.ensures c.if-branch.false

pub returns : goal.returns
returns c = no_more c.args.key.now _ _ c.loop-name.invariant c.in-None.ensures.steps.0

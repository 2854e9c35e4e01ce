use Rattle.std.proofs.Common.{◌≡◌, drop}
use Rattle.zot_repo.specs.Opening.{with_holdings}
use Rattle.zot_repo.proofs.opening.hold_each.Given as goal

-- the repositories so far, with the holdings that are left, are all
abbrev pub invariant-loop-holding : goal.invariant-loop-holding
invariant-loop-holding l = with_holdings l.moment l.repos (drop l.holding-index l.held) ≡ with_holdings l.moment l.fn.repos l.held

use Rattle.std.proofs.Common.{◌≡◌}
use Rattle.tests_turn.specs.Raising.{HasMore}
use Rattle.tests_turn.proofs.counter.raise_often.Given as goal

abbrev pub invariant-loop : goal.invariant-loop
invariant-loop g l = (l.seat.home ≡ l.fn.seat.home) × HasMore l.counter l.fn.seat l.seat

use Rattle.std.proofs.Common.{◌≡◌, ◌∙◌}
use Rattle.tests_turn.specs.declared.row.Row.{Row}
use Rattle.tests_turn.proofs.Carried.{stands_with}
use Rattle.tests_turn.proofs.row.visit_once.Goals as goal

pub turn-requires-clause-needs : goal.turn-requires-clause-needs
turn-requires-clause-needs g c = λ es value begins own stands. stands_with _ (λ (r : Row). r.seat.home ≡ c.args.numbers.now) (λ a b n e made home. made.later.home ∙ home) c.args.visitor.home value es stands c.requires.inner

use Rattle.std.proofs.Common.{◌≡◌, ℕ, ◌-◌, ◌≤◌, List, length, Option}
use Rattle.zot_session.specs.Cuts.{budget}
use Rattle.zot_session.specs.Receiving.{Came}
use Rattle.zot_session.specs.Waiting.{KeepsRoom, Waiting}
use Rattle.zot_session.proofs.body.receive_length.Given as goal

-- what was passed over is the body so far, and no call failed
pub record SoFar (was is : Waiting) (body : List ℕ) (size : ℕ) (left left' : Option (List ℕ)) (faults faults' : ℕ) : Type 0 where
  pub came : List ℕ
  pub pieces : Came was is body came left left'
  pub room : KeepsRoom was is
  pub within : length body ≤ size
  pub kept : faults' ≡ faults

abbrev pub invariant-pieces : goal.invariant-pieces
invariant-pieces g l = SoFar l.fn.inbox l.inbox l.body.items l.size (g.C.Source.left l.fn.source) (g.C.Source.left l.source) (g.C.Source.faults l.fn.source) (g.C.Source.faults l.source)

abbrev pub decreases-pieces : goal.decreases-pieces
decreases-pieces g l = budget - l.inbox.taken

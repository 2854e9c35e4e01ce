use Rattle.std.proofs.Common.{◌≡◌, ℕ, ◌-◌, List, [], Option}
use Rattle.zot_session.proofs.RoomLemmas.{HoldsHead}
use Rattle.zot_session.specs.Cuts.{budget}
use Rattle.zot_session.specs.Receiving.{Came}
use Rattle.zot_session.specs.Waiting.{Waiting}
use Rattle.zot_session.proofs.heading.receive_head.Given as goal

-- the pieces so far wait, and no call failed
pub record SoFar (was is : Waiting) (left left' : Option (List ℕ)) (faults faults' : ℕ) : Type 0 where
  pub came : List ℕ
  pub pieces : Came was is [] came left left'
  pub holds : HoldsHead is
  pub kept : faults' ≡ faults

abbrev pub invariant-pieces : goal.invariant-pieces
invariant-pieces g l = SoFar l.fn.inbox l.inbox (g.C.Source.left l.fn.source) (g.C.Source.left l.source) (g.C.Source.faults l.fn.source) (g.C.Source.faults l.source)

abbrev pub decreases-pieces : goal.decreases-pieces
decreases-pieces g l = budget - l.inbox.taken

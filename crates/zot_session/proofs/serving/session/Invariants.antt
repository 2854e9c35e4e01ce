use Rattle.std.proofs.Common.{◌≡◌, ◌+◌, ◌-◌, ◌*◌, ◌≤◌, length}
use Rattle.zot_session.specs.Cuts.{budget}
use Rattle.zot_session.specs.Waiting.{piece}
use Rattle.zot_session.proofs.SessionLemmas.{SoFar}
use Rattle.zot_session.proofs.serving.session.Given as goal

-- the connection so far: at most one piece waits, and no call failed
abbrev pub invariant-turns : goal.invariant-turns
invariant-turns g l = record {
  served : SoFar g.A.Answers.answers l.fn.answers l.answers (g.C.Source.left l.fn.source) (g.C.Source.left l.source) (g.K.Sink.held l.fn.sink) (g.K.Sink.held l.sink) l.inbox;
  waits : length l.inbox.bytes ≤ piece;
  reads : g.C.Source.faults l.source ≡ g.C.Source.faults l.fn.source;
  writes : g.K.Sink.faults l.sink ≡ g.K.Sink.faults l.fn.sink;
}

abbrev pub decreases-turns : goal.decreases-turns
decreases-turns g l = 2 * (budget - l.inbox.taken) + length l.inbox.bytes

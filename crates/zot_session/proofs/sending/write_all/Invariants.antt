use Rattle.std.proofs.Common.{◌≡◌, ℕ, List, ◌++◌, length}
use Rattle.zot_outside.specs.Streams.{Appends}
use Rattle.zot_session.proofs.sending.write_all.Given as goal

-- the part so far was written, the rest wasn't, and no call failed
abbrev pub invariant-loop-rest : goal.invariant-loop-rest
invariant-loop-rest g l =
    (part : List ℕ) × (l.bytes ≡ part ++ l.rest) × Appends (g.K.Sink.held l.fn.sink) part (g.K.Sink.held l.sink) × (g.K.Sink.faults l.sink ≡ g.K.Sink.faults l.fn.sink)

abbrev pub decreases-loop-rest : goal.decreases-loop-rest
decreases-loop-rest g l = length l.rest

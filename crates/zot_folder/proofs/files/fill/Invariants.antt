use Rattle.std.proofs.Common.{◌≡◌, ◌-◌, ◌≤◌, length, take}
use Rattle.zot_outside.specs.Streams.{Takes}
use Rattle.zot_folder.proofs.files.fill.Given as goal

-- so many bytes of the buffer are filled, with the first that were left
abbrev pub invariant-loop-n : goal.invariant-loop-n
invariant-loop-n g l = (l.n ≤ length l.buf) × (length l.buf ≡ length l.initial.buf) × Takes (g.S.Read.remaining l.initial.source) (take l.n l.buf) (g.S.Read.remaining l.source)

-- as many as are left to fill
abbrev pub decreases-loop-n : goal.decreases-loop-n
decreases-loop-n g l = length l.buf - l.n

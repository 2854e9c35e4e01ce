use Rattle.std.proofs.Common.{◌≡◌, length}
use Rattle.zot_host.specs.Parts.{HandsOut, HasMoreRoom, KeepsRoom}
use Rattle.zot_host.proofs.parts.take_some.Given as goal

-- so many parts were handed out, there is as much more room, and all else is as before
abbrev pub invariant-loop : goal.invariant-loop
invariant-loop g l =
    (length l.parts.items ≡ l.counter)
    × HandsOut (g.H.Host.parts l.initial.host) l.parts.items (g.H.Host.parts l.host)
    × (g.H.Host.faults l.host ≡ g.H.Host.faults l.initial.host)
    × (g.H.Host.files l.host ≡ g.H.Host.files l.initial.host)
    × (g.H.Host.kept l.host ≡ g.H.Host.kept l.initial.host)
    × (g.H.Host.moment l.host ≡ g.H.Host.moment l.initial.host)
    × KeepsRoom (g.H.Host.room l.initial.host) (g.H.Host.room l.host)
    × HasMoreRoom (g.H.Host.room l.initial.host) l.counter (g.H.Host.room l.host)

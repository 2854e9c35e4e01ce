use Rattle.std.proofs.Common.{◌≡◌, ◌++◌, length}
use Rattle.std.specs.Vec.Iter.{into_iter_items}
use Rattle.zot_host.specs.Parts.{TakesBack, UsesRoom}
use Rattle.zot_host.proofs.parts.keep_some.Given as goal

-- the parts so far were taken back, there is room for those that are left, and all else is as before
abbrev pub invariant-loop-part : goal.invariant-loop-part
invariant-loop-part g l =
    (l.yielded ++ into_iter_items l.part-iterator ≡ l.fn.parts.items)
    × TakesBack (g.H.Host.kept l.initial.host) l.yielded (g.H.Host.kept l.host)
    × g.H.Host.room l.host (length (into_iter_items l.part-iterator))
    × UsesRoom (g.H.Host.room l.initial.host) (length l.yielded) (g.H.Host.room l.host)
    × (g.H.Host.faults l.host ≡ g.H.Host.faults l.initial.host)
    × (g.H.Host.files l.host ≡ g.H.Host.files l.initial.host)
    × (g.H.Host.parts l.host ≡ g.H.Host.parts l.initial.host)
    × (g.H.Host.moment l.host ≡ g.H.Host.moment l.initial.host)

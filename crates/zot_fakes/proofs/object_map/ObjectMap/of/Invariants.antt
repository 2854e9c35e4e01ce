use Rattle.std.proofs.Common.{◌≡◌, map as each, string_bytes}
use Rattle.zot_fakes.specs.Given.{objects_of}
use Rattle.zot_fakes.proofs.object_map.ObjectMap.of.Given as goal

-- the objects so far are those of the paths so far
abbrev pub invariant-loop-object : goal.invariant-loop-object
invariant-loop-object l = l.made ≡ objects_of (each (λ o. (string_bytes o.0, o.1.items)) l.yielded)

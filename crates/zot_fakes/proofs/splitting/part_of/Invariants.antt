use Rattle.std.proofs.Common.{map as each, string_bytes, take}
use Rattle.zot_fakes.specs.Given.{objects_of}
use Rattle.zot_fakes.specs.Owners.{HasItsOwn}
use Rattle.zot_fakes.proofs.splitting.part_of.Given as goal

-- of the objects so far, the part has its own
abbrev pub invariant-loop-object : goal.invariant-loop-object
invariant-loop-object l = HasItsOwn l.part (objects_of (each (λ o. (string_bytes o.0, o.1.items)) (take l.object-index l.objects))) (objects_of (each (λ o. (string_bytes o.0, o.1.items)) l.own.items))

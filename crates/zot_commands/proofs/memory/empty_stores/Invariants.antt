use Rattle.std.proofs.Common.{◌≡◌, length}
use Rattle.std.specs.FinMap as finite
use Rattle.std.specs.List.{All}
use Rattle.zot_fakes.specs.Fakes.{steady_objects}
use Rattle.zot_commands.proofs.memory.empty_stores.Given as goal

-- as many stores as were counted, none with an object
abbrev pub invariant-loop : goal.invariant-loop
invariant-loop l = (length l.stores.items ≡ l.counter) × All (λ store. steady_objects store ≡ finite.empty) l.stores.items

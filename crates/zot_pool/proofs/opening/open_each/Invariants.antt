use Rattle.std.proofs.Common.{◌≡◌, ◌≤◌, drop, take}
use Rattle.std.specs.Vec.{vec_capacity}
use Rattle.zot_contents.specs.Shards.{shards}
use Rattle.zot_pool.specs.Opening.{AreOpened}
use Rattle.zot_pool.proofs.opening.open_each.Given as goal

-- the shards over the first parts are opened, and the others are left
abbrev pub invariant-loop-number : goal.invariant-loop-number
invariant-loop-number g l =
    AreOpened l.dedupe 0 (take l.number l.initial.parts.items) l.owned.items × (l.parts.items ≡ drop l.number l.initial.parts.items)
    × (vec_capacity l.initial.parts ≤ vec_capacity l.parts) × (shards ≤ vec_capacity l.owned)
